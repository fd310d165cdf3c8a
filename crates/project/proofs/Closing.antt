-- What a closed table says once the table is known to be square.
use Rattle.std.proofs.Common.{◌≡◌, true, is_ok, Ok, Err, Result, MatchResult}
use Rattle.std.proofs.lemmas.Bool.{false≢true}

pub ok-part : {A B : Type 0} (r : Result A B) (P Q : Type 0) → is_ok r ≡ true → MatchResult r (λ _. P) (λ _. Q) → P
ok-part (Ok x) P Q e h = h
ok-part (Err x) P Q e h = absurd (false≢true e)
