-- Records in range: none of their fields is refused, and their bytes tell them apart.
use Rattle.std.proofs.Common.{◌≡◌, ℕ, zero, suc, ◌+◌, ◌≤◌, List, [], ◌∷◌, ◌++◌, length, get_or, take, drop, ℤ, sym, refl, ap, ◌∙◌, ⊎_elim, arith, w32, SFits, to_z, of_z}
use mir.ValLaws.{of_z_fits}
use Rattle.std.proofs.lemmas.List.{take_at, drop_at}
use Rattle.std.proofs.lemmas.Int.{to_z-of_z, ints}
use Rattle.line.specs.Numbers.{kind_number}
use Rattle.line.specs.Plan.{Plan}
use Rattle.line.specs.Rules.{Plain, Word, Possible, Begins, Ends, Bypass, Proper, longest}
use Rattle.line.specs.declared.parts.Kind.{Kind}
use Rattle.line.specs.declared.parts.Kind.TheVariants.{Pass, Count, Gate, Toggle, Scale, Sort, Other}
use Rattle.line.specs.declared.parts.Actor.{Actor}
use Rattle.line.specs.declared.parts.Source.{Source}
use Rattle.line.specs.declared.parts.Source.TheVariants.{Sensor, Outlet}
use Rattle.line.specs.declared.parts.Sink.{Sink}
use Rattle.line.specs.declared.parts.Sink.TheVariants.{Inlet, Actuator}
use Rattle.line.specs.declared.parts.Channel.{Channel}
use Rattle.image.specs.Bytes.{le, val, between}
use Rattle.image.specs.Drafts.{counts_at}
use Rattle.image.specs.Encoding.{sensor_bytes, actor_bytes, channel_bytes, source_bytes, sink_bytes}
use Rattle.image.specs.Fields.{BadSensorField, BadSource, BadSink, Counted, source_sort}
use Rattle.image.specs.Reading.{Nowhere, Placed}
use Rattle.image.specs.Refusals.{byte, BadActorField, BadChannelField}
use Rattle.image.specs.declared.counts.Counts.{Counts}
use Rattle.image.proofs.Fields.{actor-fields, bytes-six, fields, length-source, sort-of}
use Rattle.image.proofs.Numbers.{val-le, byte_of}
use Rattle.image.proofs.Spelling.{parts}

-- a number of four bytes
four : (x : ℕ) → x ≤ longest → val (le 4 x) ≡ x
four x h = val-le 4 x (omega arith)

word_fits : (z : ℤ) → Word z → SFits w32 z
word_fits z w = omega (arith, ints)

bits : (z : ℤ) → Word z → val (le 4 (of_z w32 z)) ≡ of_z w32 z
bits z w = val-le 4 (of_z w32 z) (of_z_fits w32 z (word_fits z w)).fits

-- sensors

pub sensor-clean : (bs : List ℕ) (b l : ℕ) → l ≤ longest → sensor_bytes l ≡ between b 4 bs
    → Nowhere (Placed BadSensorField 4 bs b)
sensor-clean bs b l h e k x = omega (arith, x.1, ap val (sym e) ∙ four l h)

pub sensor-same : (l m : ℕ) → l ≤ longest → m ≤ longest → sensor_bytes l ≡ sensor_bytes m → l ≡ m
sensor-same l m h h' e = sym (four l h) ∙ ap val e ∙ four m h'

-- actors

low-plain : (k : Kind) → kind_number k ≤ 3 → Plain k
low-plain Pass h = tt
low-plain Count h = tt
low-plain Gate h = tt
low-plain Toggle h = tt
low-plain Scale h = omega arith
low-plain Sort h = omega arith
low-plain Other h = omega arith

few-kinds : (k : Kind) → kind_number k ≤ 6
few-kinds Pass = omega arith
few-kinds Count = omega arith
few-kinds Gate = omega arith
few-kinds Toggle = omega arith
few-kinds Scale = omega arith
few-kinds Sort = omega arith
few-kinds Other = omega arith

pub actor-clean : (bs : List ℕ) (b : ℕ) (x : Actor) → Possible x → actor_bytes x ≡ between b 9 bs
    → Nowhere (BadActorField bs b)
actor-clean bs b x h e k bad =
    let p = le 4 (of_z w32 x.parameter) in
    let d = le 4 x.delay in
    let one = parts (kind_number x.kind ∷ []) (p ++ d) bs b 1 8 refl e in
    let two = parts p d bs (b + 1) 4 4 refl one.1 in
    let five : b + 1 + 4 ≡ b + 5 = omega arith in
    let zero : b + 0 ≡ b = omega arith in
    let kind : byte bs b ≡ kind_number x.kind = ap (byte bs) (sym zero) ∙ byte_of bs b 1 0 (omega arith)
    ∙ ap (λ s. get_or s 0 0) (sym one.0) in
    let word : of_z w32 x.parameter ≡ val (between (b + 1) 4 bs) = sym (bits x.parameter h.number)
    ∙ ap val two.0 in
    let late : x.delay ≡ val (between (b + 5) 4 bs) = sym (four x.delay h.delay)
    ∙ ap val (two.1 ∙ ap (λ m. between m 4 bs) five) in
    ⊎_elim (λ y. omega (arith, y.1, kind, few-kinds x.kind))
    (⊎_elim (λ y. y.2 (h.parameter (low-plain x.kind (omega (arith, kind, y.1)))))
    (λ y. omega (arith, y.1, h.delay)))
    ((actor-fields bs b x.parameter x.delay (word_fits x.parameter h.number) word late).back k bad)

kind_at : ℕ → Kind
kind_at zero = Pass
kind_at (suc zero) = Count
kind_at (suc (suc zero)) = Gate
kind_at (suc (suc (suc zero))) = Toggle
kind_at (suc (suc (suc (suc zero)))) = Scale
kind_at (suc (suc (suc (suc (suc zero))))) = Sort
kind_at (suc (suc (suc (suc (suc (suc n)))))) = Other

kind-back : (k : Kind) → kind_at (kind_number k) ≡ k
unfolding kind_at
kind-back Pass = refl
kind-back Count = refl
kind-back Gate = refl
kind-back Toggle = refl
kind-back Scale = refl
kind-back Sort = refl
kind-back Other = refl

pub actor-same : (x y : Actor) → Possible x → Possible y → actor_bytes x ≡ actor_bytes y → x ≡ y
actor-same x y h h' e =
    let k : x.kind ≡ y.kind = sym (kind-back x.kind) ∙ ap (λ s. kind_at (get_or s 0 0)) e ∙ kind-back y.kind in
    let w : of_z w32 x.parameter ≡ of_z w32 y.parameter
    = sym (bits x.parameter h.number) ∙ ap (λ s. val (take 4 (drop 1 s))) e ∙ bits y.parameter h'.number in
    let p : x.parameter ≡ y.parameter
    = sym (to_z-of_z w32 _ (word_fits _ h.number)) ∙ ap (to_z w32) w ∙ to_z-of_z w32 _ (word_fits _ h'.number) in
    let d : x.delay ≡ y.delay = sym (four x.delay h.delay) ∙ ap (λ s. val (take 4 (drop 5 s))) e
    ∙ four y.delay h'.delay in
    λ i. record { kind = k i; parameter = p i; delay = d i }

-- channels

halves : (x s y t : List ℕ) (n : ℕ) → length x ≡ n → length y ≡ n → x ++ s ≡ y ++ t → (x ≡ y) × (s ≡ t)
halves x s y t n l m e =
    (sym (take_at x s n l) ∙ ap (take n) e ∙ take_at y t n m, sym (drop_at x s n l) ∙ ap (drop n) e ∙ drop_at y t n m)

module _ (n : Counts) (p : Plan) (fits : Counted n p) where
  source-clean : (x : Source) (a b c : ℕ) → Begins p x → source_bytes x ≡ a ∷ b ∷ c ∷ [] → Nowhere (BadSource n a b c)
  source-clean (Sensor s) a b c h e k bad = grind (arith, fits.sensors, fits.actors)
  source-clean (Outlet s o) a b c h e k bad = grind (arith, fits.sensors, fits.actors)

  sink-clean : (x : Source) (y : Sink) (a b c : ℕ) → Ends p y → (Bypass x y → ⊥) → sink_bytes y ≡ a ∷ b ∷ c ∷ []
      → Nowhere (BadSink n (source_sort x) a b c)
  sink-clean (Sensor s) (Inlet m i) a b c h apart e k bad = grind (arith, fits.actors, fits.actuators)
  sink-clean (Sensor s) (Actuator q) a b c h apart e k bad = apart tt
  sink-clean (Outlet s o) (Inlet m i) a b c h apart e k bad = grind (arith, fits.actors, fits.actuators)
  sink-clean (Outlet s o) (Actuator q) a b c h apart e k bad = grind (arith, fits.actors, fits.actuators)

pub channel-clean : (bs : List ℕ) (b : ℕ) (p : Plan) (x : Channel) → Counted (counts_at bs) p → b + 6 ≤ length bs
    → Proper p x
    → channel_bytes x ≡ between b 6 bs → Nowhere (BadChannelField bs b)
channel-clean bs b p x fits room h e k bad =
    let bytes = byte bs b ∷ byte bs (b + 1) ∷ byte bs (b + 2) ∷ [] in
    let bytes' = byte bs (b + 3) ∷ byte bs (b + 4) ∷ byte bs (b + 5) ∷ [] in
    let sources = source_bytes x.source in
    let both = halves sources (sink_bytes x.sink) bytes bytes' 3 (length-source x.source) refl
    (e ∙ sym (bytes-six bs b room)) in
    ⊎_elim (source-clean (counts_at bs) p fits x.source _ _ _ h.source both.0 k)
    (sink-clean (counts_at bs) p fits x.source x.sink _ _ _ h.sink h.no_bypass both.1 k)
    ((fields bs b (counts_at bs) refl (source_sort x.source) (sort-of x.source both.0)).back k bad)

source-same : (x y : Source) → source_bytes x ≡ source_bytes y → x ≡ y
source-same (Sensor s) (Sensor t) e = cc
source-same (Sensor s) (Outlet a o) e = cc
source-same (Outlet a o) (Sensor t) e = cc
source-same (Outlet a o) (Outlet b i) e = cc

sink-same : (x y : Sink) → sink_bytes x ≡ sink_bytes y → x ≡ y
sink-same (Inlet a o) (Inlet b i) e = cc
sink-same (Inlet a o) (Actuator t) e = cc
sink-same (Actuator s) (Inlet a o) e = cc
sink-same (Actuator s) (Actuator t) e = cc

pub channel-same : (x y : Channel) → channel_bytes x ≡ channel_bytes y → x ≡ y
channel-same x y e =
    let both = halves _ _ _ _ 3 (length-source x.source) (length-source y.source) e in
    let s = source-same x.source y.source both.0 in
    let t = sink-same x.sink y.sink both.1 in
    λ i. record { source = s i; sink = t i }
