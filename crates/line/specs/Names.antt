-- The kinds by name.
use Rattle.std.specs.Prelude.{ℕ, List, codes}
use Rattle.line.specs.declared.parts.Kind.{Kind}
use Rattle.line.specs.declared.parts.Kind.TheVariants.{Pass, Count, Gate, Toggle, Scale, Sort, Other}

abbrev pub kind_name : Kind → List ℕ
kind_name Pass = codes "pass"
kind_name Count = codes "count"
kind_name Gate = codes "gate"
kind_name Toggle = codes "toggle"
kind_name Scale = codes "scale"
kind_name Sort = codes "sort"
kind_name Other = codes "other"
