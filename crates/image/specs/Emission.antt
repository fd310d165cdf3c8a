-- What writing an image answers, and what it leaves in the buffer.
use Rattle.std.specs.Prelude.{◌≡◌, ℕ, ◌<◌, ◌≤◌, cond, List, length, Ok, Err, Result, MatchResult, nat_le}
use Rattle.fault.specs.declared.Fault.{Fault}
use Rattle.fault.specs.declared.RunCause.TheVariants.{Full}
use Rattle.line.specs.Plan.{Plan}
use Rattle.image.specs.Bytes.{put}
use Rattle.image.specs.Encoding.{image}

-- the length, where there is room for so many bytes, or the refusal that names it
abbrev pub Fitted : ℕ → ℕ → Result ℕ Fault → Type 0
Fitted n room r = MatchResult r (λ m. (m ≡ n) × (n ≤ room)) (λ f. (f ≡ Fault.Run Full n) × (room < n))

-- the length of the image; where the buffer is shorter, the refusal that names the length needed
abbrev pub answer : Plan → List ℕ → Result ℕ Fault
answer p buffer =
    let n = length (image p) in
    cond (nat_le n (length buffer)) (Ok n) (Err (Fault.Run Full n))

-- the image in front of what stood there; where the buffer is shorter, the buffer as it was
abbrev pub written : Plan → List ℕ → List ℕ
written p buffer = cond (nat_le (length (image p)) (length buffer)) (put buffer 0 (image p)) buffer
