-- The kinds by number.
use Rattle.std.specs.Prelude.{◌≡◌, ℕ, ◌<◌, List, ◌++◌, codes, Result, MatchResult}
use Rattle.std.specs.Fmt.{decimal}
use Rattle.line.specs.declared.parts.Kind.{Kind}
use Rattle.line.specs.declared.parts.Kind.TheVariants.{Pass, Count, Gate, Toggle, Scale, Sort, Other}
use Rattle.line.specs.declared.numbers.UnknownKind.{UnknownKind}

abbrev pub kind_number : Kind → ℕ
kind_number Pass = 0
kind_number Count = 1
kind_number Gate = 2
kind_number Toggle = 3
kind_number Scale = 4
kind_number Sort = 5
kind_number Other = 6

-- the kind with this number, or the number, which no kind has
abbrev pub Decodes : ℕ → Result Kind UnknownKind → Type 0
Decodes n r = MatchResult r (λ kind. kind_number kind ≡ n) (λ e. (e.0 ≡ n) × (6 < n))

-- what a report says of a number that no kind has
abbrev pub unknown_text : UnknownKind → List ℕ
unknown_text e = codes "no kind of actor has the number " ++ decimal e.0
