use Rattle.std.proofs.Common.{◌≡◌, drop}
use Rattle.serde_json.specs.View.{items_view}
use Rattle.input_text.specs.Json.{words_of_items}
use Rattle.input_text.proofs.LineLaws.{after}
use Rattle.input_text.proofs.json.words.Given as goal

abbrev pub invariant-loop-value : goal.invariant-loop-value
invariant-loop-value l = words_of_items (items_view l.values) ≡ after l.words (words_of_items (items_view (drop l.value-index l.values)))
