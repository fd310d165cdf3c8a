-- Where the records of a plan stand in its image.
use Rattle.std.proofs.Common.{◌≡◌, ℕ, zero, suc, ◌+◌, ◌*◌, ◌<◌, List, [], ◌∷◌, ◌++◌, length, get_or, take, drop, sym, refl, ap, ◌∙◌, mul-zero, mul-suc, arith}
use Rattle.std.specs.List.{flat_map}
use Rattle.std.proofs.lemmas.List.{append_assoc, append-nil, length-append, take_at, drop_at, take-take, drop-take, drop-drop}
use Rattle.line.specs.Plan.{Plan}
use Rattle.line.specs.declared.parts.Channel.{Channel}
use Rattle.line.specs.declared.parts.Sink.{Sink}
use Rattle.line.specs.declared.parts.Sink.TheVariants.{Inlet, Actuator}
use Rattle.image.specs.Bytes.{between, put}
use Rattle.image.specs.Drafts.{counts_of}
use Rattle.image.specs.declared.counts.Counts.{Counts}
use Rattle.image.specs.Encoding.{image, mark, counts, size, sensor_bytes, actor_bytes, channel_bytes, source_bytes, sink_bytes}
use Rattle.image.specs.Reading.{Nowhere, BadRow}
use Rattle.image.proofs.Fields.{length-source}
use Rattle.image.proofs.Puts.{put_next}
use Rattle.image.proofs.Rows.{length-flat_map}

-- what begins a part, and what follows
pub parts : (x s bs : List ℕ) (at w m : ℕ) → length x ≡ w → x ++ s ≡ between at (w + m) bs
    → (x ≡ between at w bs) × (s ≡ between (at + w) m bs)
parts x s bs at w m l e = (
  sym (take_at x s w l) ∙ ap (take w) e ∙ take-take w (w + m) (drop at bs) (omega arith),
  sym (drop_at x s w l) ∙ ap (drop w) e ∙ drop-take w m (drop at bs) ∙ ap (take m) (drop-drop w at bs),
)

module _ {X : Type 0} (f : X → List ℕ) (w : ℕ) (even : (x : X) → length (f x) ≡ w) (bs : List ℕ) where
  -- record i of a row
  pub row_at : (xs : List X) (at i : ℕ) (d : X) → flat_map f xs ≡ between at (w * length xs) bs → i < length xs
      → f (get_or xs i d) ≡ between (at + w * i) w bs
  row_at [] at i d e l = absurd (omega arith)
  row_at (x ∷ xs) at zero d e l =
      let m : w * suc (length xs) ≡ w + w * length xs = omega (arith, mul-suc w (length xs)) in
      let z : at + w * 0 ≡ at = omega (arith, mul-zero w) in
      (parts (f x) (flat_map f xs) bs at w (w * length xs) (even x) (e ∙ ap (λ n. between at n bs) m)).0
      ∙ ap (λ k. between k w bs) (sym z)
  row_at (x ∷ xs) at (suc i) d e l =
      let m : w * suc (length xs) ≡ w + w * length xs = omega (arith, mul-suc w (length xs)) in
      let z : at + w + w * i ≡ at + w * suc i = omega (arith, mul-suc w i) in
      let rest = (parts (f x) (flat_map f xs) bs at w (w * length xs) (even x) (e ∙ ap (λ n. between at n bs) m)).1 in
      row_at xs (at + w) i d rest (omega arith) ∙ ap (λ k. between k w bs) z

  -- where each record is accepted, no field is bad
  pub row-clean : (bad : List ℕ → ℕ → ℕ → Type 0) (xs : List X) (at : ℕ) (d : X)
      → flat_map f xs ≡ between at (w * length xs) bs
      → ((i b : ℕ) → i < length xs → f (get_or xs i d) ≡ between b w bs → Nowhere (bad bs b))
      → Nowhere (BadRow bad w bs at (length xs))
  row-clean bad xs at d e accepted k b = accepted b.0 (at + w * b.0) b.2 (row_at xs at b.0 d e b.2)
      b.1 b.4

middle : (front x rest : List ℕ) (at n : ℕ) → length front ≡ at → length x ≡ n → x ≡ between at n (front ++ (x ++ rest))
middle front x rest at n l m = sym (ap (take n) (drop_at front (x ++ rest) at l) ∙ take_at x rest n m)

length-sink : (y : Sink) → length (sink_bytes y) ≡ 3
length-sink (Inlet a i) = refl
length-sink (Actuator q) = refl

pub length-channel : (x : Channel) → length (channel_bytes x) ≡ 6
length-channel x = length-append (source_bytes x.source) (sink_bytes x.sink)
    ∙ omega (arith, length-source x.source, length-sink x.sink)

module _ (p : Plan) where
  abbrev js : List ℕ
  js = flat_map sensor_bytes p.sensors

  abbrev ja : List ℕ
  ja = flat_map actor_bytes p.actors

  abbrev jc : List ℕ
  jc = flat_map channel_bytes p.channels

  -- what stands behind the counts
  abbrev pub records : List ℕ
  records = js ++ (ja ++ jc)

  ls : length js ≡ 4 * length p.sensors
  ls = length-flat_map sensor_bytes 4 (λ x. refl) p.sensors

  la : length ja ≡ 9 * length p.actors
  la = length-flat_map actor_bytes 9 (λ x. refl) p.actors

  lc : length jc ≡ 6 * length p.channels
  lc = length-flat_map channel_bytes 6 length-channel p.channels

  pub image-length : length (image p) ≡ size (length p.sensors) (length p.actors) (length p.channels)
  image-length = omega (arith, length-append js (ja ++ jc), length-append ja jc, ls, la, lc)

  pub asked : (n : Counts) {r : ℕ} → n ≡ counts_of p → r ≡ size n.sensors n.actors n.channels
      → r ≡ length (image p)
  asked n e f = f ∙ ap (λ m. size m.sensors m.actors m.channels) e ∙ sym image-length

  pub sensors-at : js ≡ between 9 (4 * length p.sensors) (image p)
  sensors-at = middle (mark ++ counts p) js (ja ++ jc) 9 (4 * length p.sensors) refl ls

  pub actors_at : ja ≡ between (9 + 4 * length p.sensors) (9 * length p.actors) (image p)
  actors_at =
      let front = mark ++ counts p in
      middle (front ++ js) ja jc (9 + 4 * length p.sensors) (9 * length p.actors) (omega (arith, ls)) la
      ∙ ap (between (9 + 4 * length p.sensors) (9 * length p.actors)) (append_assoc front js (ja ++ jc))

  pub channels_at : jc ≡ between (9 + 4 * length p.sensors + 9 * length p.actors) (6 * length p.channels)
      (image p)
  channels_at =
      let front = mark ++ counts p in
      let at = 9 + 4 * length p.sensors + 9 * length p.actors in
      let l : length (front ++ (js ++ ja)) ≡ at = omega (arith, length-append js ja, ls, la) in
      middle (front ++ (js ++ ja)) jc [] at (6 * length p.channels) l lc
      ∙ ap (λ s. between at (6 * length p.channels) ((front ++ (js ++ ja)) ++ s)) (append-nil jc)
      ∙ ap (λ s. between at (6 * length p.channels) (front ++ s)) (append_assoc js ja jc)

  -- the parts written one behind the other are the image written
  pub put-image : (d : List ℕ) (m n : ℕ) {a b c e r : List ℕ}
      → m ≡ 9 + 4 * length p.sensors → n ≡ 9 + 4 * length p.sensors + 9 * length p.actors
      → a ≡ put d 0 mark → b ≡ put a 5 (counts p) → c ≡ put b 9 js → e ≡ put c m ja → r ≡ put e n jc
      → r ≡ put d 0 (image p)
  put-image d m n em en one two three four five =
      let front = mark ++ counts p in
      let lm : 0 + length (front ++ js) ≡ m = omega (arith, ls) in
      let ln : 0 + length (front ++ (js ++ ja)) ≡ n = omega (arith, length-append js ja, ls, la) in
      let head = put_next d mark (counts p) 0 5 (omega arith) refl one two in
      let more = put_next d (front ++ js) ja 0 m (omega arith) lm
      (put_next d front js 0 9 (omega arith) refl head three) four in
      put_next d (front ++ (js ++ ja)) jc 0 n (omega arith) ln more five
      ∙ ap (λ x. put d 0 (front ++ x)) (append_assoc js ja jc)
