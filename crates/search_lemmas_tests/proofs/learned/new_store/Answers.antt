use Rattle.search_lemmas_tests.proofs.learned.new_store.Goals as goal

pub returns : goal.returns
returns c = c.new.ensures c.args._circuit.now
