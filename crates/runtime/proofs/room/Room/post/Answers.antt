use Rattle.std.proofs.Common.{◌≡◌, ℕ, ◌+◌, ◌≤◌, Bool, true, false, cond, List, length, ap, arith}
use Rattle.queue.specs.Held.{held}
use Rattle.queue.specs.Order.{put}
use Rattle.runs.proofs.Lists.{length-put}
use Rattle.runtime.proofs.room.Room.post.Goals as goal

-- a record that may have been put in finds room where there was room for one more
one_more : {A : Type 0} (f : A → ℕ) (x : A) (xs ys : List A) (b : Bool) (k n : ℕ) → ys ≡ cond b (put f x xs) xs →
    length xs + 1 + k ≤ n → length ys + k ≤ n
one_more f x xs ys true k n e h = let s = ap length e in let t = length-put f x xs in omega arith
one_more f x xs ys false k n e h = let s = ap length e in omega arith

pub invariant_of-self : goal.invariant_of-self
invariant_of-self g c = record { fits = one_more g.T.Ranked.order c.in-Some.item (held c.args.self.now.waiting) _ _ c.args.self.now.aside g.row.N c.insert.ensures.after (rw c.in-Some.is at c.requires) }
