-- The first flaw of a plan, from checks made in the order of their refusals.
use Rattle.std.proofs.Common.{Bool, sym, subst, length, ◌≤◌, ◌≡◌, refl, Ok, Err, Result, MatchResult, Decides, true, false, ℕ, ◌+◌, ◌<◌, refl, inl, inr, ⊎_elim, arith}
use Rattle.fault.specs.declared.RecordsCause.TheVariants.{Field, Order, Sink}
use Rattle.fault.specs.declared.GraphCause.TheVariants.{Unwired, CutOff, ZeroLoop}
use Rattle.fault.specs.declared.Fault.{Fault}
use Rattle.line.specs.Plan.{Plan}
use Rattle.line.specs.Rules.{Misplaced, Doubled, Idle, Unfed, Severed, Instant, Lawful, Sized, Ranged}
use Rattle.image.specs.Refusals.{Earlier, Loose, Flaw}
use Rattle.std.proofs.lemmas.Bool.{false≢true}
use Rattle.project.specs.Flawed.{Cleared, FirstFlaw}

pub told : {P : Type 0} (b c : Bool) → Decides b P → c ≡ b → Decides c P
told {P = P} b c d e = subst (λ (x : Bool). Decides x P) (sym e) d

-- the refusal of the lowest number, where the test tells P, and P holds of no number from n on
pub cleared : (P : ℕ → Type 0) (f : ℕ → Fault) (n : ℕ) (r : Result (Unit {0}) Fault) (Yes No : ℕ → Type 0) (Made : ℕ → Fault → Type 0)
    → MatchResult r (λ _. (k : ℕ) → k < n → No k) (λ e. (k : ℕ) × (k < n) × Made k e × Yes k × ((j : ℕ) → j < k → No j))
    → ((k : ℕ) → P k → k < n) → ((k : ℕ) → Yes k → Decides true (P k)) → ((k : ℕ) → No k → Decides false (P k)) → ((k : ℕ) (e : Fault) → Made k e → e ≡ f k)
    → Cleared P f r
cleared P f n (Ok u) Yes No Made w below yes' no' made = λ k h. false≢true ((no' k (w k (below k h))).1 h)
cleared P f n (Err e) Yes No Made w below yes' no' made = (w.0, made w.0 e w.2, (yes' w.0 w.3).0 refl, λ j lt h. false≢true ((no' j (w.4 j lt)).1 h))

pub cleared-same : (P Q : ℕ → Type 0) (f : ℕ → Fault) (r : Result (Unit {0}) Fault) → ((k : ℕ) → (P k → Q k) × (Q k → P k)) → Cleared P f r → Cleared Q f r
cleared-same P Q f (Ok u) same w = λ k h. w k ((same k).1 h)
cleared-same P Q f (Err e) same w = (w.0, w.1, (same w.0).0 w.2, λ j lt h. w.3 j lt ((same j).1 h))

-- sensors come before actuators, whose numbers follow the places of sixteen sensors
pub idle-loose : (p : Plan) → length p.sensors ≤ 16 → (e : Fault) → Cleared (Idle p) (λ k. Fault.Graph Unwired k) (Err e) → Cleared (Loose p) (λ k. Fault.Graph Unwired k) (Err e)
idle-loose p few e w = (w.0, w.1, inl w.2, λ j lt. ⊎_elim (λ i. w.3 j lt i) (λ u. omega (arith, u.1, lt, w.2.0, few)))

pub unfed-loose : (p : Plan) (r : Result (Unit {0}) Fault) → ((k : ℕ) → Idle p k → ⊥) → Cleared (Unfed p) (λ q. Fault.Graph Unwired (16 + q)) r → Cleared (Loose p) (λ k. Fault.Graph Unwired k) r
unfed-loose p (Ok u) none w = λ k. ⊎_elim (λ i. none k i) (λ h. w h.0 h.2)
unfed-loose p (Err e) none w = (16 + w.0, w.1, inr (w.0, refl, w.2), λ j lt. ⊎_elim (λ i. none j i) (λ h. w.3 h.0 (omega (arith, h.1, lt)) h.2))

module _ (p : Plan) where
  -- P holds of no number; P holds of k and of none below
  abbrev Never : (ℕ → Type 0) → Type 0
  Never P = (k : ℕ) → P k → ⊥

  abbrev Here : (ℕ → Type 0) → ℕ → Type 0
  Here P k = P k × ((j : ℕ) → j < k → P j → ⊥)

  pub first-order : (k : ℕ) → Here (Misplaced p) k → FirstFlaw p (Fault.Records Order k)
  first-order k h = record { holds = h.0; none_before = before }
    where
      before : (g : Fault) → Earlier g (Fault.Records Order k) → Flaw p g → ⊥
      before (Fault.Bytes c j) e w = w
      before (Fault.Records Field j) e w = w
      before (Fault.Records Order j) e w = h.1 j (⊎_elim (λ l. absurd (omega arith)) (λ l. l.1) e) w
      before (Fault.Records Sink j) e w = ⊎_elim (λ l. omega arith) (λ l. omega (arith, l.0)) e
      before (Fault.Graph Unwired j) e w = ⊎_elim (λ l. omega arith) (λ l. omega (arith, l.0)) e
      before (Fault.Graph CutOff j) e w = ⊎_elim (λ l. omega arith) (λ l. omega (arith, l.0)) e
      before (Fault.Graph ZeroLoop j) e w = ⊎_elim (λ l. omega arith) (λ l. omega (arith, l.0)) e
      before (Fault.Run c j) e w = w

  pub first-sink : Never (Misplaced p) → (k : ℕ) → Here (Doubled p) k → FirstFlaw p (Fault.Records Sink k)
  first-sink n5 k h = record { holds = h.0; none_before = before }
    where
      before : (g : Fault) → Earlier g (Fault.Records Sink k) → Flaw p g → ⊥
      before (Fault.Bytes c j) e w = w
      before (Fault.Records Field j) e w = w
      before (Fault.Records Order j) e w = n5 j w
      before (Fault.Records Sink j) e w = h.1 j (⊎_elim (λ l. absurd (omega arith)) (λ l. l.1) e) w
      before (Fault.Graph Unwired j) e w = ⊎_elim (λ l. omega arith) (λ l. omega (arith, l.0)) e
      before (Fault.Graph CutOff j) e w = ⊎_elim (λ l. omega arith) (λ l. omega (arith, l.0)) e
      before (Fault.Graph ZeroLoop j) e w = ⊎_elim (λ l. omega arith) (λ l. omega (arith, l.0)) e
      before (Fault.Run c j) e w = w

  pub first-loose : Never (Misplaced p) → Never (Doubled p) → (k : ℕ) → Here (Loose p) k → FirstFlaw p (Fault.Graph Unwired k)
  first-loose n5 n6 k h = record { holds = h.0; none_before = before }
    where
      before : (g : Fault) → Earlier g (Fault.Graph Unwired k) → Flaw p g → ⊥
      before (Fault.Bytes c j) e w = w
      before (Fault.Records Field j) e w = w
      before (Fault.Records Order j) e w = n5 j w
      before (Fault.Records Sink j) e w = n6 j w
      before (Fault.Graph Unwired j) e w = h.1 j (⊎_elim (λ l. absurd (omega arith)) (λ l. l.1) e) w
      before (Fault.Graph CutOff j) e w = ⊎_elim (λ l. omega arith) (λ l. omega (arith, l.0)) e
      before (Fault.Graph ZeroLoop j) e w = ⊎_elim (λ l. omega arith) (λ l. omega (arith, l.0)) e
      before (Fault.Run c j) e w = w

  pub first-severed : Never (Misplaced p) → Never (Doubled p) → Never (Loose p) → (k : ℕ) → Here (Severed p) k → FirstFlaw p (Fault.Graph CutOff k)
  first-severed n5 n6 n7 k h = record { holds = h.0; none_before = before }
    where
      before : (g : Fault) → Earlier g (Fault.Graph CutOff k) → Flaw p g → ⊥
      before (Fault.Bytes c j) e w = w
      before (Fault.Records Field j) e w = w
      before (Fault.Records Order j) e w = n5 j w
      before (Fault.Records Sink j) e w = n6 j w
      before (Fault.Graph Unwired j) e w = n7 j w
      before (Fault.Graph CutOff j) e w = h.1 j (⊎_elim (λ l. absurd (omega arith)) (λ l. l.1) e) w
      before (Fault.Graph ZeroLoop j) e w = ⊎_elim (λ l. omega arith) (λ l. omega (arith, l.0)) e
      before (Fault.Run c j) e w = w

  pub first-instant : Never (Misplaced p) → Never (Doubled p) → Never (Loose p) → Never (Severed p) → (k : ℕ) → Here (Instant p) k → FirstFlaw p (Fault.Graph ZeroLoop k)
  first-instant n5 n6 n7 n8 k h = record { holds = h.0; none_before = before }
    where
      before : (g : Fault) → Earlier g (Fault.Graph ZeroLoop k) → Flaw p g → ⊥
      before (Fault.Bytes c j) e w = w
      before (Fault.Records Field j) e w = w
      before (Fault.Records Order j) e w = n5 j w
      before (Fault.Records Sink j) e w = n6 j w
      before (Fault.Graph Unwired j) e w = n7 j w
      before (Fault.Graph CutOff j) e w = n8 j w
      before (Fault.Graph ZeroLoop j) e w = h.1 j (⊎_elim (λ l. absurd (omega arith)) (λ l. l.1) e) w
      before (Fault.Run c j) e w = w

  pub lawful : Sized p → Ranged p → Never (Misplaced p) → Never (Doubled p) → Never (Loose p) → Never (Severed p) → Never (Instant p) → Lawful p
  lawful s r n5 n6 n7 n8 n9 = record {
    sized = s;
    ranged = r;
    rising = n5;
    single = n6;
    feeding = λ k h. n7 k (inl h);
    fed = λ q h. n7 (16 + q) (inr (q, refl, h));
    live = n8;
    moving = n9;
  }
