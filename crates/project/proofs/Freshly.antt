-- The fresh plan keeps every rule.
use Rattle.std.proofs.Common.{◌≡◌, ℕ, zero, suc, ◌+◌, ◌<◌, ◌≤◌, sym, refl, ap, subst, inl, inr, ⊎_elim, arith, lit<, lit≤}
use lib.Signed.{le_z_yes}
use Rattle.line.specs.Lists.{In}
use Rattle.line.specs.Plan.{Leads, lateness, actor_of}
use Rattle.line.specs.Paths.{Path, hop, via, out}
use Rattle.line.specs.Rules.{Sized, Ranged, Lawful, Proper, Possible, Misplaced, Doubled, Idle, Unfed, Severed, longest, weight, channel_of}
use Rattle.line.specs.declared.parts.Source.TheVariants.{Sensor, Outlet}
use Rattle.line.specs.declared.parts.Sink.TheVariants.{Inlet, Actuator}
use Rattle.line.specs.declared.parts.Channel.{Channel}
use Rattle.project.specs.Fresh.{fresh_plan}

pub fresh-sized : Sized fresh_plan
fresh-sized = record {
  some_sensor = lit≤ tt;
  few_sensors = lit≤ tt;
  some_actor = lit≤ tt;
  few_actors = lit≤ tt;
  some_actuator = lit≤ tt;
  few_actuators = lit≤ tt;
  some_channel = lit≤ tt;
  few_channels = lit≤ tt;
}

pub fresh-ranged : Ranged fresh_plan
fresh-ranged = record { latenesses = late; actors = able; channels = fits }
  where
    late : (s : ℕ) → s < 1 → lateness fresh_plan s ≤ longest
    late zero h = lit≤ tt
    late (suc s) h = absurd (omega arith)

    able : (a : ℕ) → a < 1 → Possible (actor_of fresh_plan a)
    able zero h = record { number = (le_z_yes tt, le_z_yes tt); parameter = λ _. refl; delay = lit≤ tt }
    able (suc a) h = absurd (omega arith)

    fits : (c : Channel) → In c fresh_plan.channels → Proper fresh_plan c
    fits c (inl e) = subst (Proper fresh_plan) (sym e) (record { source = lit< tt; sink = (lit< tt, lit< tt); no_bypass = λ x. x })
    fits c (inr (inl e)) = subst (Proper fresh_plan) (sym e) (record { source = (lit< tt, lit< tt); sink = lit< tt; no_bypass = λ x. x })
    fits c (inr (inr m)) = absurd m

-- no channel of the fresh plan leads from an actor to an actor
no-hop : (b o c i : ℕ) → Leads fresh_plan (Outlet b o) (Inlet c i) → ⊥
no-hop b o c i (inl e) = let s : Outlet b o ≡ Sensor 0 = ap (λ (x : Channel). x.source) e in let z : ◌≡◌ {A = ℕ} 0 1 = cc in omega arith
no-hop b o c i (inr (inl e)) = let s : Inlet c i ≡ Actuator 0 = ap (λ (x : Channel). x.sink) e in let z : ◌≡◌ {A = ℕ} 0 1 = cc in omega arith
no-hop b o c i (inr (inr m)) = m

one_below : (j : ℕ) → 1 ≡ j + 1 → j ≡ 0
one_below j e = omega arith

rises : (k : ℕ) → Misplaced fresh_plan k → ⊥
rises zero w = omega (arith, w.1)
rises (suc zero) w =
    let low = subst (λ (j : ℕ). weight (channel_of fresh_plan 1).source ≤ weight (channel_of fresh_plan j).source) (one_below w.0 w.1) w.3 in
    omega (arith, low)
rises (suc (suc k)) w = omega (arith, w.2)

apart : (k : ℕ) → Doubled fresh_plan k → ⊥
apart zero w = omega (arith, w.1)
apart (suc zero) w =
    let z : w.0 ≡ 0 = omega (arith, w.1) in
    let same : Inlet 0 0 ≡ Actuator 0 = subst (λ (j : ℕ). (channel_of fresh_plan j).sink ≡ Actuator 0) z w.3 in
    let q : ◌≡◌ {A = ℕ} 0 1 = cc in omega arith
apart (suc (suc k)) w = omega (arith, w.2)

feeds : (s : ℕ) → Idle fresh_plan s → ⊥
feeds zero w = w.1 (Inlet 0 0) (inl refl)
feeds (suc s) w = omega (arith, w.0)

is-fed : (q : ℕ) → Unfed fresh_plan q → ⊥
is-fed zero w = w.1 (Outlet 0 0) (inr (inl refl))
is-fed (suc q) w = omega (arith, w.0)

lives : (a : ℕ) → Severed fresh_plan a → ⊥
lives zero w = ⊎_elim (λ f. f 0 0 (0, 0, inl refl, inl (refl, refl))) (λ f. f 1 (out 0 0 (inr (inl refl)))) w.1
lives (suc a) w = omega (arith, w.0)

no_path : (b a n : ℕ) → Path fresh_plan b a n → ⊥
no_path b a n (hop o i m) = no-hop b o a i m
no_path b a n (via {c = c} o i m q) = no-hop b o c i m

pub fresh-lawful : Lawful fresh_plan
fresh-lawful = record {
  sized = fresh-sized;
  ranged = fresh-ranged;
  rising = rises;
  single = apart;
  feeding = feeds;
  fed = is-fed;
  live = lives;
  moving = λ a w. no_path a a 0 w.1;
}
