-- What a queue means: the records that its bounded list holds, by the same word.
use Rattle.std.specs.Prelude.{ℕ, List}
use Rattle.bounded.specs.Held as bounded
use Rattle.queue.specs.declared.Queue.{Queue}

abbrev pub held : {A : Type 0} {n : ℕ} → Queue A n → List A
held q = bounded.held q.list
