use Rattle.std.proofs.Common.{sym, ◌∙◌, subst}
use Rattle.banks.specs.Meaning.{Alike}
use Rattle.banks.proofs.Alikes as alikes
use Rattle.supplied.specs.Holding.{meaning_of}
use Rattle.supplied.proofs.laws.new_banks.Goals as goal

pub returns : goal.returns
returns c = λ xs x y p q n. subst (Alike n (meaning_of x)) (p ∙ sym q) ((alikes.laws).same n (meaning_of x))
