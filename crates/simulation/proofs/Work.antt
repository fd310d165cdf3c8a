-- Journals that go on being runs.
use Rattle.std.proofs.Common.{◌≡◌, ℕ, ◌+◌, ◌<◌, Bool, true, false, cond, not, List, [], ◌∷◌, ◌++◌, length, get_or, drop, pos, sym, ap, ◌∙◌, subst, append_assoc}
use Rattle.std.proofs.lemmas.List.{at_drop_more, map-append}
use Rattle.line.specs.Plan.{Plan}
use Rattle.line.specs.Times.{Line}
use Rattle.banks.specs.Meaning.{Meaning}
use Rattle.project.specs.Project.{line}
use Rattle.project.specs.declared.project.Project.{Project}
use Rattle.runs.specs.Calls.{Outcome, finish_after, finish_answer}
use Rattle.runs.specs.Runs.{Journal, Runs, next}
use Rattle.runs.specs.State.{State}
use Rattle.runs.specs.declared.records.Running.{Running}
use Rattle.runs.specs.declared.records.Call.{Call}
use Rattle.runs.specs.declared.records.Call.TheVariants.{Arrive, Advance, Pick, Start, Finish, Deliver, Report, Close}
use Rattle.runs.specs.declared.records.Answer.{Answer}
use Rattle.runs.specs.declared.records.Step.{Step}
use Rattle.runtime.specs.Model.{Performs, state}
use Rattle.runtime.specs.declared.runtime.Inner.{Inner}
use Rattle.simulation.specs.Calls.{without}
use Rattle.simulation.specs.Journals.{Worked, called}

-- an outcome depends on the bank by its reaction alone
finish_answer-by : (p : Plan) (m j : Meaning) (s : State) (fs : List Running) → m.reaction ≡ j.reaction →
    finish_answer p j s fs ≡ finish_answer p m s fs
finish_answer-by p m j s fs e = ap (λ r. finish_answer p (record { rows = m.rows; reaction = r }) s fs) (sym e)

finish_after-by : (l : Line) (m j : Meaning) (s : State) (fs : List Running) → m.reaction ≡ j.reaction →
    finish_after l j s fs ≡ finish_after l m s fs
finish_after-by l m j s fs e = ap (λ r. finish_after l (record { rows = m.rows; reaction = r }) s fs) (sym e)

outcome-by : (l : Line) (m j : Meaning) (s : State) (c : Call) (r : Answer) (z : State) → m.reaction ≡ j.reaction →
    Outcome l j s c r z → Outcome l m s c r z
outcome-by l m j s (Arrive x t v) r z e o = o
outcome-by l m j s (Advance c) r z e o = o
outcome-by l m j s Pick r z e o = o
outcome-by l m j s (Start a) r z e o = o
outcome-by l m j s Finish r z e o = (
  o.0 ∙ finish_answer-by l.plan m j s s.stack e,
  o.1 ∙ finish_after-by l m j s s.stack e,
)
outcome-by l m j s Deliver r z e o = o
outcome-by l m j s Report r z e o = o
outcome-by l m j s Close r z e o = o

module _ {B : Type 0} (means : B → Meaning) where
  pub worked-step : (i : Inner B) (h : Journal) (j : Inner B) (k : Journal) (c : Call) (a : Answer) (n : Inner B) (k' : Journal) →
      Worked means i h j k → Performs means j c a n → k' ≡ k ++ record { call = c; answer = a } ∷ [] → Worked means i h n k'
  worked-step i h j k c a n k' w d e = record {
    runs = λ m q r.
        let last = outcome-by (line j.core.project) m (means j.bank) (state means j) c a (state means n)
        (q ∙ sym w.reaction) d.outcome in
        let here = subst (λ (p : Project). Outcome (line p) m (state means j) c a (state means n)) w.project last in
        subst (λ (k : Journal). Runs (line i.core.project) m k (state means n)) (sym e)
        (next (record { call = c; answer = a }) (w.runs m q r) here);
    project = d.project ∙ w.project;
    reaction = d.reaction ∙ w.reaction;
  }

  pub worked-then : {i j n : Inner B} {h k l : Journal} → Worked means i h j k → Worked means j k n l → Worked means i h n l
  worked-then {i = i} {j = j} {n = n} {k = k} {l = l} v w = record {
    runs = λ m q r. subst (λ (p : Project). Runs (line p) m l (state means n)) v.project
        (w.runs m (q ∙ sym v.reaction) (subst (λ (p : Project). Runs (line p) m k (state means j)) (sym v.project) (v.runs m q r)));
    project = w.project ∙ v.project;
    reaction = w.reaction ∙ v.reaction;
  }

-- the calls that are left
pub called_more : (k k' : Journal) (c : Call) (a : Answer) (rest : List Call) → k' ≡ k ++ record { call = c; answer = a } ∷ [] →
    called k' ++ rest ≡ called k ++ c ∷ rest
called_more k k' c a rest e =
    ap (λ (k : Journal). called k ++ rest) e
    ∙ ap (λ (cs : List Call). cs ++ rest) (map-append (λ (x : Step). x.call) k (record { call = c; answer = a } ∷ []))
    ∙ append_assoc (called k) (c ∷ []) rest

-- a loop over the calls that a runtime has
module _ (lacks : Call → Bool) (cs : List Call) (i : ℕ) (d : Call) (h : i < length cs) where
  next-had : (b : Bool) → lacks (get_or cs i d) ≡ b →
      without lacks (drop i cs) ≡ cond (not b) (get_or cs i d ∷ without lacks (drop (i + 1) cs)) (without lacks (drop (i + 1) cs))
  next-had b e = at_drop_more (without lacks) cs i d h
      ∙ ap (λ b. cond (not b) (get_or cs i d ∷ without lacks (drop (i + 1) cs)) (without lacks (drop (i + 1) cs))) e

  module _ (k : Journal) (all : List Call) where
    pub had-more : (k' : Journal) (a : Answer) → lacks (get_or cs i d) ≡ false →
        k' ≡ k ++ record { call = get_or cs i d; answer = a } ∷ [] → called k ++ without lacks (drop i cs) ≡ all →
        called k' ++ without lacks (drop (i + 1) cs) ≡ all
    had-more k' a b e q = called_more k k' (get_or cs i d) a (without lacks (drop (i + 1) cs)) e
        ∙ ap (λ (xs : List Call). called k ++ xs) (sym (next-had false b)) ∙ q

    pub had-less : lacks (get_or cs i d) ≡ true → called k ++ without lacks (drop i cs) ≡ all →
        called k ++ without lacks (drop (i + 1) cs) ≡ all
    had-less b q = ap (λ (xs : List Call). called k ++ xs) (sym (next-had true b)) ∙ q

-- what a loop reads past the end of the calls
abbrev pub no_call : Call
no_call = Arrive 0 0 (pos 0)
