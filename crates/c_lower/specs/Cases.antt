-- Case labels as the definition has them.
use Rattle.c_lower.specs.declared.labels.CaseLabel.{CaseLabel}
use Rattle.c_lower_rules.specs.graph_of.Switch.{Case}

abbrev pub case_of : CaseLabel → Case
case_of l = record { span = l.span; value = l.value; target = l.target }
