pub mod occurrences
pub mod gap_words
pub mod word_index
