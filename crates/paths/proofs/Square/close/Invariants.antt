use Rattle.std.proofs.Common.{◌≡◌, ℕ, ◌+◌, ◌*◌, List}
use Rattle.paths.specs.Paths.{at}
use Rattle.paths.proofs.Turns.{Built, Closed, Offered}
use Rattle.paths.proofs.Square.close.Given as goal

-- row i is done up to j, over whatever table the rows before it are done
abbrev pub invariant-loop-j : goal.invariant-loop-j
invariant-loop-j g l =
    (l.self.cells.ghost_name ≡ l.initial.self.cells.ghost_name)
    × (l.self.places ≡ l.n)
    × ((e : ℕ → ℕ → g.row.W.Denot) (t : List g.row.W.Denot)
    → Offered g.met.W.Weight.laws l.n e l.k (l.i * l.n) t l.initial.self.cells.now
    → Offered g.met.W.Weight.laws l.n e l.k (l.i * l.n + l.j) t l.self.cells.now)

-- the rows before i are done
abbrev pub invariant-loop-i : goal.invariant-loop-i
invariant-loop-i g l =
    (l.self.cells.ghost_name ≡ l.initial.self.cells.ghost_name)
    × (l.self.places ≡ l.n)
    × ((e : ℕ → ℕ → g.row.W.Denot) → Built g.met.W.Weight.laws l.n e l.initial.self.cells.now
    → Offered g.met.W.Weight.laws l.n e l.k (l.i * l.n) l.initial.self.cells.now l.self.cells.now)

-- the paths with inner places before k are covered
abbrev pub invariant-loop-k : goal.invariant-loop-k
invariant-loop-k g l =
    let e = at g.W.Weight.none l.n l.initial.self.cells.now in
    (l.self.cells.ghost_name ≡ l.initial.self.cells.ghost_name)
    × (l.self.places ≡ l.n)
    × Closed g.met.W.Weight.laws l.n e l.k l.self.cells.now
