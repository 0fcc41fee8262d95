pub mod made_laws
pub mod printed_laws
pub mod report_laws
pub mod refuted_laws
pub mod traced_laws
pub mod replayed_laws
pub mod due_laws
