use Rattle.bit_words.proofs.ProductLemmas.{ProductSoFar}
use Rattle.bit_words.proofs.products.product.Given as goal

abbrev pub invariant-loop-i : goal.invariant-loop-i
invariant-loop-i l = ProductSoFar l.initial.circuit l.circuit l.a l.b l.width l.bits l.i
