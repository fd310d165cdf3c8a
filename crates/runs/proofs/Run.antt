-- A run as the calls that were accepted, with what it tells, the newest first: the form in which the laws are proved.
use Rattle.std.proofs.Common.{◌≡◌, ℕ, true, List, [], ◌∷◌, ◌++◌, reverse, ℤ, Some, None, Option}
use Rattle.line.specs.Times.{Line, Sound}
use Rattle.runs.specs.Lists.{changed}
use Rattle.banks.specs.Meaning.{Meaning}
use Rattle.runs.specs.State.{State, fresh, arrived, advanced, started, finished, delivered, closed, running, firing}
use Rattle.runs.specs.State.{reacted, outputs_sent}
use Rattle.runs.specs.Calls.{Delivers, output_of}
use Rattle.runs.specs.Runs.{Arrival, Timed, at_clock, all_at}
use Rattle.runs.specs.Safe.{Causal}
use Rattle.runs.specs.declared.records.Running.{Running}
use Rattle.runs.specs.declared.records.Firing.{Firing}
use Rattle.runs.specs.declared.records.Output.{Output}
use Rattle.runs.specs.declared.records.Delivered.{Delivered}
use Rattle.runs.proofs.Accepted.{Arrives, Advances, Starts}
use Rattle.runs.proofs.Safe.{causal-open, causal-arrive, causal-advance, causal-start, causal-finish, causal-deliver}
use Rattle.runs.proofs.Safe.{causal-close}

pub data Run (l : Line) (m : Meaning) : State → Type 0 where
  opened : Run l m (fresh m)
  arrive : {s : State} (x t : ℕ) (v : ℤ) → s.taking ≡ true → Arrives l s x t → Run l m s →
      Run l m (arrived l s x t v)
  advance : {s : State} (c : ℕ) → Advances s c → Run l m s → Run l m (advanced s c)
  start : {s : State} (a t : ℕ) → Starts l s a t → Run l m s → Run l m (started s a t)
  finish : {s : State} (f : Running) (fs : List Running) → s.stack ≡ f ∷ fs → Run l m s →
      Run l m (finished l m s f fs)
  deliver : {s : State} (d : Delivered) (os : List Output) → Delivers s d os → Run l m s → Run l m (delivered s os)
  close : {s : State} → Run l m s → Run l m (closed s)

-- accepted arrivals
abbrev pub came : {l : Line} {m : Meaning} {s : State} → Run l m s → List Arrival
came opened = []
came (arrive x t v live h r) = record { sensor = x; timestamp = t; value = v } ∷ came r
came (advance c h r) = came r
came (start a t h r) = came r
came (finish f fs e r) = came r
came (deliver d os h r) = came r
came (close r) = came r

-- accepted starts
abbrev pub begun : {l : Line} {m : Meaning} {s : State} → Run l m s → List Running
begun opened = []
begun (arrive x t v live h r) = begun r
begun (advance c h r) = begun r
begun (start {s} a t h r) = running s a t ∷ begun r
begun (finish f fs e r) = begun r
begun (deliver d os h r) = begun r
begun (close r) = begun r

-- the latest accepted start of each actor
abbrev pub latest : {l : Line} {m : Meaning} {s : State} → Run l m s → ℕ → Option ℕ
latest opened = λ _. None
latest (arrive x t v live h r) = latest r
latest (advance c h r) = latest r
latest (start {s} a t h r) = changed (latest r) a (Some t)
latest (finish f fs e r) = latest r
latest (deliver d os h r) = latest r
latest (close r) = latest r

-- finished firings
abbrev pub log : {l : Line} {m : Meaning} {s : State} → Run l m s → List Firing
log opened = []
log (arrive x t v live h r) = log r
log (advance c h r) = log r
log (start a t h r) = log r
log {l} {m} (finish {s} f fs e r) = firing l.plan m s f ∷ log r
log (deliver d os h r) = log r
log (close r) = log r

-- outputs handed out
abbrev pub gone : {l : Line} {m : Meaning} {s : State} → Run l m s → List Output
gone opened = []
gone (arrive x t v live h r) = gone r
gone (advance c h r) = gone r
gone (start a t h r) = gone r
gone (finish f fs e r) = gone r
gone (deliver d os h r) = output_of d ∷ gone r
gone (close r) = gone r

-- outputs posted and handed out, with the clock then
abbrev pub posted : {l : Line} {m : Meaning} {s : State} → Run l m s → List Timed
posted opened = []
posted (arrive x t v live h r) = posted r
posted (advance c h r) = posted r
posted (start a t h r) = posted r
posted {l} {m} (finish {s} f fs e r) = reverse
    (all_at s.clock (outputs_sent l.plan (firing l.plan m s f))) ++ posted r
posted (deliver d os h r) = posted r
posted (close r) = posted r

abbrev pub given : {l : Line} {m : Meaning} {s : State} → Run l m s → List Timed
given opened = []
given (arrive x t v live h r) = given r
given (advance c h r) = given r
given (start a t h r) = given r
given (finish f fs e r) = given r
given (deliver {s} d os h r) = at_clock s.clock (output_of d) ∷ given r
given (close r) = given r

-- no firing of a run is overtaken
pub causal : (l : Line) → Sound l → {m : Meaning} {s : State} (r : Run l m s) → Causal l (latest r) s
causal l sound {m} opened = causal-open l m
causal l sound (arrive {s} x t v live h r) = causal-arrive l sound (latest r) s x t v live h (causal l sound r)
causal l sound (advance {s} c h r) = causal-advance l (latest r) s c h (causal l sound r)
causal l sound (start {s} a t h r) = causal-start l sound (latest r) s a t h (causal l sound r)
causal l sound {m} (finish {s} f fs e r) = causal-finish l sound (latest r) s f fs (reacted m s f) e
    (causal l sound r)
causal l sound (deliver {s} d os h r) = causal-deliver l (latest r) s os (causal l sound r)
causal l sound (close {s} r) = causal-close l (latest r) s (causal l sound r)
