-- Each output is handed out in its turn and when it is due.
use Rattle.std.proofs.Common.{◌≡◌, ℕ, ◌<◌, ◌≤◌, max, Bool, eqb, ◌⊎◌, List, ◌∷◌, ◌++◌, map, reverse, sym, refl, ap, ◌∙◌, subst, inl, inr, arith}
use Rattle.std.proofs.lemmas.Bool.{eqb-true}
use Rattle.line.specs.Lists.{In}
use Rattle.line.specs.Times.{Line, Sound}
use Rattle.runs.specs.Lists.{Each, keep}
use Rattle.banks.specs.Meaning.{Meaning}
use Rattle.runs.specs.State.{State, firing, outputs_sent, output_time}
use Rattle.runs.specs.Calls.{output_of}
use Rattle.runs.specs.Runs.{Timed, at_clock, all_at, for_actuator, when_due}
use Rattle.runs.specs.declared.records.Firing.{Firing}
use Rattle.runs.specs.declared.records.Output.{Output}
use Rattle.runs.proofs.Lists.{each-cons, in-append, append_left, append_right, in_map, map-in, in-reverse, reverse-in}
use Rattle.runs.proofs.Lists.{in-keep, keep-in, in-put-all, in-out, out-there, pairs-append, pairs-reverse, pairs-map}
use Rattle.runs.proofs.Lists.{pairs-if, Falls, falls-keep, falls-one, suffix}
use Rattle.runs.proofs.Sending.{sent-out}
use Rattle.runs.proofs.Run.{Run, opened, arrive, advance, start, finish, deliver, close, log, gone, posted, given}
use Rattle.runs.proofs.Outs.{outs, Sent, old_below, Elsewhere, sent-elsewhere, more-sent}

abbrev to_whom : Timed → ℕ
to_whom p = p.output.actuator

abbrev dated : Timed → ℕ
dated p = p.output.timestamp

-- what a finish posts, and what it posted before
in-posted : (c : ℕ) (os : List Output) (ps : List Timed) (p : Timed) → In p (reverse (all_at c os) ++ ps) →
    ((o : Output) × In o os × (p ≡ at_clock c o)) ⊎ In p ps
in-posted c os ps p n = elim (in-append (reverse (all_at c os)) ps p n) [
  | inl k ↦ inl (in_map (at_clock c) os p (in-reverse (all_at c os) p k))
  | inr k ↦ inr k
]

module _ (l : Line) (sound : Sound l) where
  -- all that is posted was sent
  posted-sent : {m : Meaning} {s : State} (r : Run l m s) → Each (λ (p : Timed). Sent l.plan (log r) p.output)
      (posted r)
  posted-sent opened = λ p n. absurd n
  posted-sent (arrive x t v live h r) = posted-sent r
  posted-sent (advance c h r) = posted-sent r
  posted-sent (start a t h r) = posted-sent r
  posted-sent {m} (finish {s} f fs e r) = λ p n.
      let g : Firing = firing l.plan m s f in
      elim (in-posted s.clock (outputs_sent l.plan g) (posted r) p n) [
        | inl k ↦ subst (λ (p : Timed). Sent l.plan (g ∷ log r) p.output) (sym k.2)
            (record { firing = g; there = inl refl; sends = sent-out l.plan g k.0 k.1 })
        | inr k ↦ more-sent l.plan sound.lawful g (log r) p.output (posted-sent r p k)
      ]
  posted-sent (deliver d os h r) = posted-sent r
  posted-sent (close r) = posted-sent r

  -- what is posted to an actuator rises
  posted-fall : {m : Meaning} {s : State} (r : Run l m s) → Falls to_whom dated (posted r)
  posted-fall opened = tt
  posted-fall (arrive x t v live h r) = posted-fall r
  posted-fall (advance c h r) = posted-fall r
  posted-fall (start a t h r) = posted-fall r
  posted-fall {m} (finish {s} f fs e r) =
      let g : Firing = firing l.plan m s f in
      let os : List Output = outputs_sent l.plan g in
      pairs-append (λ (p q : Timed). to_whom p ≡ to_whom q → dated q < dated p) (reverse (all_at s.clock os))
      (posted r)
      (pairs-reverse (λ (p q : Timed). to_whom p ≡ to_whom q → dated q < dated p) (all_at s.clock os)
      (pairs-map (at_clock s.clock) (λ (p q : Timed). to_whom q ≡ to_whom p → dated p < dated q) os
      (pairs-if Elsewhere (λ (o u : Output). u.actuator ≡ o.actuator → o.timestamp < u.timestamp)
      (λ (_ : Output). Unit {0}) os
      (λ o u _ _ w z. absurd (w (sym z))) (λ _ _. tt) (sent-elsewhere l.plan sound.lawful g))))
      (posted-fall r)
      (λ p n q k z.
      let w = in_map (at_clock s.clock) os p (in-reverse (all_at s.clock os) p n) in
      let v : p.output ≡ w.0 = ap (λ (p : Timed). p.output) w.2 in
      let b = old_below l sound r f g q.output w.0 (rw e (inl refl)) refl refl (posted-sent r q k)
      (sent-out l.plan g w.0 w.1) (sym z ∙ ap (λ (o : Output). o.actuator) v) in
      omega (arith, ap (λ (o : Output). o.timestamp) v))
  posted-fall (deliver d os h r) = posted-fall r
  posted-fall (close r) = posted-fall r

  -- an output waits no longer than it is due
  abbrev Waits : State → List Timed → Output → Type 0
  Waits s ps o = (c : ℕ) × In (at_clock c o) ps × (c ≤ s.clock) × (s.clock ≤ max o.timestamp c)

  waits : {m : Meaning} {s : State} (r : Run l m s) → Each (Waits s (posted r)) s.outputs
  waits opened = λ o n. absurd n
  waits (arrive x t v live h r) = waits r
  waits (advance c h r) = λ o n. let i = waits r o n in
      (i.0, i.1, omega (arith, i.2, h.not_back), omega (arith, h.none_due o n))
  waits (start a t h r) = waits r
  waits {m} (finish {s} f fs e r) = λ o n.
      let os : List Output = outputs_sent l.plan (firing l.plan m s f) in
      elim (in-put-all output_time os s.outputs o n) [
        | inl k ↦ (
          s.clock,
          append_left (reverse (all_at s.clock os)) (posted r) _
              (reverse-in (all_at s.clock os) _ (map-in (at_clock s.clock) os o k)),
          omega arith,
          omega arith,
        )
        | inr k ↦ let i = waits r o k in
            (i.0, append_right (reverse (all_at s.clock os)) (posted r) _ i.1, i.2, i.3)
      ]
  waits (deliver d os h r) = λ o n. waits r o (in-out h.without o n)
  waits (close r) = waits r

  -- each that was handed out was due then
  abbrev Went : List Timed → Timed → Type 0
  Went ps g = (p : Timed) × In p ps × (g ≡ when_due p)

  went : {m : Meaning} {s : State} (r : Run l m s) → Each (Went (posted r)) (given r)
  went opened = λ g n. absurd n
  went (arrive x t v live h r) = went r
  went (advance c h r) = went r
  went (start a t h r) = went r
  went {m} (finish {s} f fs e r) = λ g n. let i = went r g n in (
    i.0,
    append_right (reverse (all_at s.clock (outputs_sent l.plan (firing l.plan m s f)))) (posted r)
        i.0 i.1,
    i.2,
  )
  went (deliver {s} d os h r) =
      let i = waits r (output_of d) (out-there h.without) in
      let t : s.clock ≡ max d.timestamp i.0 = omega (arith, i.2, i.3, h.due) in
      each-cons (Went (posted r)) (at_clock s.clock (output_of d)) (given r)
      (at_clock i.0 (output_of d), i.1, ap (λ c. at_clock c (output_of d)) t) (went r)
  went (close r) = went r

  given-gone : {m : Meaning} {s : State} (r : Run l m s) → Each (λ (g : Timed). In g.output (gone r)) (given r)
  given-gone opened = λ g n. absurd n
  given-gone (arrive x t v live h r) = given-gone r
  given-gone (advance c h r) = given-gone r
  given-gone (start a t h r) = given-gone r
  given-gone (finish f fs e r) = given-gone r
  given-gone (deliver {s} d os h r) =
      each-cons (λ (g : Timed). In g.output (output_of d ∷ gone r)) (at_clock s.clock (output_of d)) (given r)
      (inl refl) (λ g n. inr (given-gone r g n))
  given-gone (close r) = given-gone r

  gone-given : {m : Meaning} {s : State} (r : Run l m s) →
      Each (λ (o : Output). (c : ℕ) × In (at_clock c o) (given r)) (gone r)
  gone-given opened = λ o n. absurd n
  gone-given (arrive x t v live h r) = gone-given r
  gone-given (advance c h r) = gone-given r
  gone-given (start a t h r) = gone-given r
  gone-given (finish f fs e r) = gone-given r
  gone-given (deliver {s} d os h r) = each-cons
      (λ (o : Output). (c : ℕ) × In (at_clock c o) (at_clock s.clock (output_of d) ∷ given r)) (output_of d)
      (gone r)
      (s.clock, inl refl) (λ o n. let i = gone-given r o n in (i.0, inr i.1))
  gone-given (close r) = gone-given r

  given-fall : {m : Meaning} {s : State} (r : Run l m s) → Falls to_whom dated (given r)
  given-fall opened = tt
  given-fall (arrive x t v live h r) = given-fall r
  given-fall (advance c h r) = given-fall r
  given-fall (start a t h r) = given-fall r
  given-fall (finish f fs e r) = given-fall r
  given-fall (deliver {s} d os h r) =
      ((λ g n e. (outs l sound (deliver d os h r)).falls.0 g.output (given-gone r g n) e), given-fall r)
  given-fall (close r) = given-fall r

  -- a posted one was handed out when it was due, or lies behind all that were
  settled : {m : Meaning} {s : State} (r : Run l m s) (p : Timed) → In p (posted r) →
      In (when_due p) (given r) ⊎ Each (λ (g : Timed). to_whom p ≡ to_whom g → dated g < dated p) (given r)
  settled r p n = elim ((outs l sound r).to p.output (posted-sent r p n)) [
    | inl k ↦ inr (λ g w e. (outs l sound r).over g.output (given-gone r g w) p.output k (sym e))
    | inr k ↦
        let i = gone-given r p.output k in
        let w = went r (at_clock i.0 p.output) i.1 in
        let e : w.0 ≡ p = falls-one to_whom dated (posted r) (posted-fall r) w.0 p w.1 n
        (ap to_whom (sym w.2)) (ap dated (sym w.2)) in
        inl (subst (λ (g : Timed). In g (given r)) (w.2 ∙ ap when_due e) i.1)
  ]

  -- the newest first: what was handed out is the end of what was posted, when due
  pub hands_out : {m : Meaning} {s : State} (r : Run l m s) (q : ℕ) →
      (rest : List Timed) × (map when_due (for_actuator q (posted r)) ≡ rest ++ for_actuator q (given r))
  hands_out r q =
      suffix After (λ x y a b. omega arith) (map when_due (keep test (posted r))) (keep test (given r))
      (pairs-map when_due After (keep test (posted r)) (falls-keep to_whom dated (posted r) (posted-fall r) q))
      (falls-keep to_whom dated (given r) (given-fall r) q)
      (λ g n. let h = in-keep test (given r) g n in
      let w = went r g h.0 in
      subst (λ (x : Timed). In x (map when_due (keep test (posted r)))) (sym w.2)
      (map-in when_due (keep test (posted r)) w.0
      (keep-in test (posted r) w.0 (ap test (sym w.2) ∙ h.1) w.1)))
      (λ x n.
      let y = in_map when_due (keep test (posted r)) x n in
      let h = in-keep test (posted r) y.0 y.1 in
      subst (λ (x : Timed). In x (keep test (given r)) ⊎ Each (After x) (keep test (given r))) (sym y.2)
      (elim (settled r y.0 h.0) [
        | inl k ↦ inl (keep-in test (given r) (when_due y.0) h.1 k)
        | inr w ↦ inr (λ g k. let j = in-keep test (given r) g k in
            w g j.0 (eqb-true (to_whom y.0) q h.1 ∙ sym (eqb-true (to_whom g) q j.1)))
      ]))
    where
      test : Timed → Bool
      test p = eqb p.output.actuator q

      After : Timed → Timed → Type 0
      After x y = dated y < dated x
