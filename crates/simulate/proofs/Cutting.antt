-- A script cut into its lines.
use Rattle.std.proofs.Common.{◌≡◌, ◌≢◌, ℕ, ◌+◌, ◌-◌, ◌<◌, cond, List, [], ◌∷◌, ◌++◌, ◌==◌, length, take, get_or, sym, refl, ap, ◌∙◌, subst, arith}
use Rattle.std.specs.List.{slice_split, onto_first}
use Rattle.std.proofs.lemmas.Bool.{ne_eqb}
use Rattle.std.proofs.lemmas.List.{take_more, take_all}
use Rattle.simulate.specs.Lines.{begun, lines_of}

-- the parts between bytes 10
abbrev parts : List ℕ → List (List ℕ)
parts bs = slice_split (λ b. b == 10) bs

begins : (c : ℕ) (ls : List (List ℕ)) → begun c ls ≡ onto_first c ls
begins c [] = refl
begins c (l ∷ ls) = refl

-- one more byte in front
more : (c : ℕ) (ls ms : List (List ℕ)) → ls ≡ ms → cond (c == 10) ([] ∷ ls) (begun c ls) ≡ cond (c == 10) ([] ∷ ms) (onto_first c ms)
more c ls ms same =
    ap (λ ks. cond (c == 10) ([] ∷ ks) (begun c ks)) same ∙ ap (cond (c == 10) ([] ∷ ms)) (begins c ms)

-- a byte 10 at the end ends the last line
ended : (bs : List ℕ) → lines_of (bs ++ (10 ∷ [])) ≡ parts bs
ended [] = refl
ended (c ∷ cs) = more c _ _ (ended cs)

-- the last line also ends without it
unended : (bs : List ℕ) (b : ℕ) → b ≢ 10 → lines_of (bs ++ (b ∷ [])) ≡ parts (bs ++ (b ∷ []))
unended [] b other = rw (ne_eqb b 10 other)
unended (c ∷ cs) b other = more c _ _ (unended cs b other)

-- a script and its last byte
whole : (bs : List ℕ) → 0 < length bs → take (length bs - 1) bs ++ (get_or bs (length bs - 1) 0 ∷ []) ≡ bs
whole bs some =
    sym (take_more bs (length bs - 1) 0 (omega arith)) ∙ take_all (length bs - 1 + 1) bs (omega arith)

pub cut-ended : (bs : List ℕ) → 0 < length bs → get_or bs (length bs - 1) 0 ≡ 10 → parts (take (length bs - 1) bs) ≡ lines_of bs
cut-ended bs some is =
    sym (ended (take (length bs - 1) bs)) ∙ ap (λ b. lines_of (take (length bs - 1) bs ++ (b ∷ []))) (sym is) ∙ ap lines_of (whole bs some)

pub cut-unended : (bs : List ℕ) → 0 < length bs → get_or bs (length bs - 1) 0 ≢ 10 → parts bs ≡ lines_of bs
cut-unended bs some other =
    let e = unended (take (length bs - 1) bs) (get_or bs (length bs - 1) 0) other in
    subst (λ xs. parts xs ≡ lines_of xs) (whole bs some) (sym e)
