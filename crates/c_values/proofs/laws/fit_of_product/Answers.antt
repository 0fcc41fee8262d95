use Rattle.c_values.proofs.Consequences as laws
use Rattle.c_values.proofs.laws.fit_of_product.Goals as goal

pub returns : goal.returns
returns c = laws.fit_of_product
