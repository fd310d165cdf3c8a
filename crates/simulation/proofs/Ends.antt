-- The ends of runs.
use Rattle.std.proofs.Common.{Vec, Global, ◌≡◌, Bool, true, ◌&&◌, eqb, List, [], ◌∷◌, ◌++◌, length, IfOk, Ok, Err, vec_items, Decides, Result, sym, refl, ap, ◌∙◌, subst, arith}
use Rattle.std.proofs.lemmas.Bool.{and_from, and_parts, eq-eqb, eqb-true, not-true}
use Rattle.banks.specs.Meaning.{Meaning}
use Rattle.project.specs.Project.{line}
use Rattle.project.specs.declared.project.Project.{Project}
use Rattle.runs.specs.Runs.{Complete, Journal, Runs, opened}
use Rattle.runs.specs.State.{State}
use Rattle.runs.specs.declared.records.Call.{Call}
use Rattle.runs.specs.declared.records.Call.TheVariants.{Close}
use Rattle.runs.specs.declared.records.Answer.TheVariants.{Done}
use Rattle.runs.specs.declared.records.Status.{Status}
use Rattle.runs.specs.declared.records.Step.{Step}
use Rattle.runtime.specs.Model.{Does, Opened, state}
use Rattle.runtime.specs.declared.runtime.Inner.{Inner}
use Rattle.runtime.proofs.Performs.{performs}
use Rattle.simulation.specs.Calls.{existing}
use Rattle.simulation.specs.Journals.{Worked, called, closing}
use Rattle.simulation.specs.Performed.{Ran, Tells}
use Rattle.simulation.specs.declared.Run.{Run}
use Rattle.simulation.proofs.Work.{worked-step, worked-then}

module _ {B : Type 0} (means : B → Meaning) where
  -- a run from open on, of the calls cs
  ran : (p : Project) (b : B) (i j : Inner B) (cs : List Call) (r : Run) (n : B) →
      Opened means p b i → Worked means i [] j (vec_items r.journal) → called (vec_items r.journal) ≡ existing cs →
      Tells (state means j) r (means n) → n ≡ j.bank → Ran (line p) (means b) cs r (means n)
  ran p b i j cs r n o w c t e =
      let same = ap (λ (b : B). (means b).reaction) o.bank in
      let first : Runs (line i.core.project) (means b) [] (state means i) =
      subst (Runs (line i.core.project) (means b) []) (sym o.state) opened in
      record {
        last = state means j;
        runs = subst (λ (p : Project). Runs (line p) (means b) (vec_items r.journal) (state means j)) o.project (w.runs (means b) (sym same) first);
        calls = c;
        tells = t;
        reaction = ap (λ (b : B). (means b).reaction) e ∙ w.reaction ∙ same;
      }

  -- the journal k, of the calls cs, on the way from i to j
  abbrev pub Noted : (i j : Inner B) (cs : List Call) (k : Vec Step Global) → Type 0
  Noted i j cs k = Worked means i [] j (vec_items k) × (called (vec_items k) ≡ cs)

  -- of a run that ends where memory gave out, nothing is told
  pub performed : {E : Type 0} (p : Project) (b : B) (i j : Inner B) (cs ds : List Call) (w : Result (Vec Step Global) E) (r : Result Run E) (n : B) →
      Opened means p b i → existing cs ≡ ds → IfOk w (Noted i j ds) → IfOk r (λ run. w ≡ Ok run.journal) →
      IfOk r (λ run. Tells (state means j) run (means n)) → n ≡ j.bank →
      IfOk r (λ run. Ran (line p) (means b) cs run (means n))
  performed p b i j cs ds w (Ok r) n o d h e t q =
      let noted : Noted i j ds r.journal = subst (λ w. IfOk w (Noted i j ds)) e h in
      ran p b i j cs r n o noted.0 (noted.1 ∙ sym d) t q
  performed p b i j cs ds w (Err e) n o d h k t q = tt

  -- a journal that was empty
  pub from-empty : {E : Type 0} (i j : Inner B) (cs : List Call) (h : Journal) (w : Result (Vec Step Global) E) → h ≡ [] →
      IfOk w (λ k. Worked means i h j (vec_items k)) → IfOk w (λ k. called (vec_items k) ≡ called h ++ cs) → IfOk w (Noted i j cs)
  from-empty i j cs h (Ok k) e w c = (subst (λ (h : Journal). Worked means i h j (vec_items k)) e w, c ∙ ap (λ (h : Journal). called h ++ cs) e)
  from-empty i j cs h (Err x) e w c = tt

  -- a close, and what was worked off behind it
  pub closed-behind : {E : Type 0} (i j z n : Inner B) (cs ds : List Call) (w v : Result (Vec Step Global) E) →
      IfOk w (Noted i j cs) → Does means j Close Done z →
      elim w as (λ _. Type 0) [
        | Ok h ↦ IfOk v (λ k. Worked means z (vec_items h ++ closing ∷ []) n (vec_items k) × (called (vec_items k) ≡ called (vec_items h) ++ ds))
        | Err e ↦ v ≡ Err e
      ] →
      IfOk v (Noted i n (cs ++ ds))
  closed-behind i j z n cs ds (Ok h) (Ok k) m d b = (
    worked-then means (worked-step means _ _ _ _ Close Done _ _ m.0 (performs d) refl) b.0,
    b.1 ∙ ap (λ (xs : List Call). xs ++ ds) m.1,
  )
  closed-behind i j z n cs ds (Ok h) (Err e) m d b = tt
  closed-behind i j z n cs ds (Err e) v m d b = subst (λ v. IfOk v (Noted i n (cs ++ ds))) (sym b) tt

-- complete runs ---------------------------------------------------------------------------

none : {A : Type 0} (xs : List A) → length xs ≡ 0 → xs ≡ []
none [] e = refl
none (x ∷ xs) e = absurd (omega arith)

-- closed, with nothing left
pub complete_by : (s : State) (r : Run) (n : Meaning) (b : Bool) → Tells s r n → r.closed ≡ true →
    b ≡ eqb r.status.events 0 && (eqb r.status.firings 0 && eqb r.status.outputs 0) → Decides b (Complete s)
complete_by s r n b t c e = (
  λ o.
      let all = and_parts _ _ (sym e ∙ o) in
      let back = and_parts _ _ all.1 in
      record {
        shut = not-true s.taking (sym t.closed ∙ c);
        no_event = none s.events (sym (ap (λ (u : Status). u.events) t.status) ∙ eqb-true r.status.events 0 all.0);
        no_firing = none s.stack (sym (ap (λ (u : Status). u.firings) t.status) ∙ eqb-true r.status.firings 0 back.0);
        no_output = none s.outputs (sym (ap (λ (u : Status). u.outputs) t.status) ∙ eqb-true r.status.outputs 0 back.1);
      },
  λ k. e ∙ and_from _ _ (eq-eqb r.status.events 0 (ap (λ (u : Status). u.events) t.status ∙ ap length k.no_event))
      (and_from _ _ (eq-eqb r.status.firings 0 (ap (λ (u : Status). u.firings) t.status ∙ ap length k.no_firing))
      (eq-eqb r.status.outputs 0 (ap (λ (u : Status). u.outputs) t.status ∙ ap length k.no_output))),
)
