-- What stands on the lines of a script, line by line.
use Rattle.std.proofs.Common.{◌≡◌, ℕ, ◌+◌, ◌<◌, ◌≤◌, Bool, true, false, cond, ◌||◌, List, [], ◌∷◌, ◌++◌, map, length, get_or, drop, Some, None, Option, sym, refl, ap, ◌∙◌, append_assoc, append-nil, arith, Bor}
use Rattle.std.specs.List.{cons_option}
use Rattle.std.proofs.lemmas.List.{drop_more, drop_all, get_or-map, length-map}
use Rattle.runs.specs.declared.records.Call.{Call}
use Rattle.script.specs.Spelling.{PassedOver}
use Rattle.simulation.specs.Calls.{when_closed, existing}
use Rattle.simulate.specs.declared.entries.Entry.{Entry}
use Rattle.simulate.specs.Scripts.{Says, Stands, Entered, end, passed, entry, closes, calls_of}

-- es stand on the first i lines: with what stands on the others they stand on all
pub record SoFar (ls : List (List ℕ)) (es : List Entry) (closed : Bool) (i : ℕ) : Type 0 where
  pub on : (fs : List Entry) → Entered (i + 1) closed (drop i ls) fs → Entered 1 false ls (es ++ fs)

-- the turn at the line of the text x
module _ (ls : List (List ℕ)) (es : List Entry) (closed : Bool) (i : ℕ) (sofar : SoFar ls es closed i)
    (ts : List (Bor (List ℕ))) (same : map (λ x. x.now) ts ≡ ls) (within : i < length ts) (x : Bor (List ℕ)) where
  here : drop i ls ≡ (get_or ts i x).now ∷ drop (i + 1) ls
  here =
      let long : length ts ≡ length ls = sym (length-map ts (λ y. y.now)) ∙ ap length same in
      let text : get_or ls i [] ≡ (get_or ts i x).now = ap (λ l. get_or l i []) (sym same) ∙ get_or-map (λ y. y.now) ts i x [] within in
      drop_more ls i [] (omega arith) ∙ ap (λ l. l ∷ drop (i + 1) ls) text

  pub line-passed : PassedOver (get_or ts i x).now → SoFar ls es closed (i + 1)
  line-passed p = record { on = λ fs h. sofar.on fs (rw here (passed p h)) }

  pub line-stands : (e : Entry) → Stands (i + 1) (get_or ts i x).now closed e →
      SoFar ls (es ++ (e ∷ [])) (closed || closes e.call) (i + 1)
  line-stands e s = record {
    on = λ fs h. rw (append_assoc es (e ∷ []) fs) (sofar.on (e ∷ fs) (rw here (entry s h)));
  }

pub all_lines : (ls : List (List ℕ)) (es : List Entry) (closed : Bool) (i : ℕ) → SoFar ls es closed i →
    (ts : List (Bor (List ℕ))) → map (λ x. x.now) ts ≡ ls → length ts ≤ i → Entered 1 false ls es
all_lines ls es closed i sofar ts same none =
    let long : length ts ≡ length ls = sym (length-map ts (λ y. y.now)) ∙ ap length same in
    rw append-nil at (sofar.on [] (rw (drop_all i ls (omega arith)) end))

-- every call among the entries is one that the runtime has
entry-performed : (closed : Bool) (l : List ℕ) (o : Option Call) (cs : List Call) → Says closed l o →
    cond (closed || closes o) (when_closed cs) (existing cs) ≡ cs →
    cond closed (when_closed (cons_option o cs)) (existing (cons_option o cs)) ≡ cons_option o cs
entry-performed true l None cs s h = h
entry-performed false l None cs s h = h
entry-performed true l (Some c) cs s h = rw s.0 (ap (λ ds. c ∷ ds) h)
entry-performed false l (Some c) cs s h = ap (λ ds. c ∷ ds) h

performed : (n : ℕ) (closed : Bool) (ls : List (List ℕ)) (es : List Entry) → Entered n closed ls es →
    cond closed (when_closed (calls_of es)) (existing (calls_of es)) ≡ calls_of es
performed n true ls es end = refl
performed n false ls es end = refl
performed n closed ls es (passed p h) = performed _ closed _ es h
performed n closed ls es (entry {l} {e} {es = fs} s h) =
    entry-performed closed l e.call (calls_of fs) s.call (performed _ _ _ fs h)

pub all-performed : (ls : List (List ℕ)) (es : List Entry) → Entered 1 false ls es → existing (calls_of es) ≡ calls_of es
all-performed ls es h = performed 1 false ls es h
