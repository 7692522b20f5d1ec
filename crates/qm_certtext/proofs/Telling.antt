-- The lines of a certificate are read back, each in one way.
use Rattle.std.proofs.Common.{rules, arith, false, filter, get_or, length, List, [], drop, map, pos, refl, true, ◌++◌}
use Rattle.std.proofs.Common.{◌+◌, ◌∷◌, ◌≡◌, ap, ℕ, ℤ}
use Rattle.def_certtext.specs.CertLines.{HasUps, Lists, dual_lines, line_text, said_by}
use Rattle.def_certtext.specs.Reading.{is_hash_line, is_small, length_in, may_stand, set_up_in, vertex_in, vertex_up_in}
use Rattle.def_certtext.specs.declared.CertLine.TheVariants.{Floor, Length, Rise as rise_line, Set, Vertex}
use Rattle.std.specs.{Fmt.signed_decimal, List.flat_map, List.list_all, List.list_any, Prelude.decimal}
use Rattle.def_certtext.specs.{Reading.is_third, Reading.lists_in, Reading.set_in, declared.CertLine.CertLine}
use Rattle.{std.proofs.lemmas.Grind.common_steps, std.proofs.lemmas.Fmt.decimal_injective}
use Rattle.{def_certtext.specs.declared.certs.Rising.Rising, std.proofs.lemmas.Fmt.signed_decimal_injective}
use Rattle.{qm_certtext.proofs.Counts.split_once, def_text.specs.Types.Word, qm_obj.proofs.TailLemmas.none_from_all}
use Rattle.{def_certtext.specs.Laws.IsWritableCert, def_certtext.specs.declared.certs.Rising.TheVariants.Never}
use Rattle.{qm_certtext.proofs.Counts.rise_small, qm_certtext.specs.Parts.is_rise}

-- The same number and the same `up` behind a letter.
same_dual : (rest : Word) (y z : ℤ) (u v : ℕ) → is_small y u ≡ true → is_small z v ≡ true → rest
    ≡ signed_decimal y ++ 32 ∷ decimal u → rest ≡ signed_decimal z ++ 32 ∷ decimal v → (y ≡ z) × (u ≡ v)
same_dual rest y z u v small_y small_z one two =
    grind (arith, common_steps, split_once rest y z u v, decimal_injective u v, signed_decimal_injective)

-- A text is one line.
pub one_line : (rising : Rising) (a b : CertLine) → may_stand rising a ≡ true → may_stand rising b ≡ true
    → line_text a ≡ line_text b → a ≡ b
one_line rising (Length m) (Length n) p q same = search (rules, decimal_injective)
one_line rising (Vertex y u) (Vertex z v) p q same = grind (arith, same_dual _ y z u v p q refl (ap (drop 3) same))
one_line rising (Set y u) (Set z v) p q same = grind (arith, same_dual _ y z u v p q refl (ap (drop 3) same))
one_line rising (Floor f) (Floor g) p q same = search (rules, decimal_injective)
one_line rising (rise_line r) (rise_line s) p q same =
    let both = same_dual _ (pos (r.arc + 1)) (pos (s.arc + 1)) _
    _ (rise_small rising r p) (rise_small rising s q) refl (ap (drop 3) same) in
    search rules
one_line rising _ _ p q same = absurd (omega (arith, ap (λ (w : Word). get_or w 1 0) same))

-- Texts are one list of lines.
pub one_list : (rising : Rising) (said other : List CertLine) → list_all (may_stand rising) said ≡ true
    → list_all (may_stand rising) other ≡ true → map line_text said ≡ map line_text other → said ≡ other
one_list rising [] [] p q same = refl
one_list rising (a ∷ said) (b ∷ other) p q same =
    grind (arith, one_line rising a b, one_list rising said other, p, q, same)
one_list rising _ _ p q same = absurd cc

-- Each line is marked.
pub all_marked : (said : List CertLine) → filter is_hash_line (map line_text said) ≡ map line_text said
all_marked [] = refl
all_marked (Length n ∷ said) = ap (λ (ls : List Word). line_text (Length n) ∷ ls) (all_marked said)
all_marked (line ∷ said) = ap (λ (ls : List Word). line_text line ∷ ls) (all_marked said)

-- The lines of sets add to the lists of sets alone.
sets_back : (zs : List ℤ) (us : List ℕ) → length us ≡ length zs → (flat_map length_in (dual_lines Set zs us) ≡ [])
    × (flat_map vertex_in (dual_lines Set zs us) ≡ []) × (flat_map vertex_up_in (dual_lines Set zs us) ≡ [])
    × (flat_map set_in (dual_lines Set zs us) ≡ zs) × (flat_map set_up_in (dual_lines Set zs us) ≡ us)
sets_back [] [] long = (refl, refl, refl, refl, refl)
sets_back (z ∷ zs) (u ∷ us) long = search (rules, sets_back zs us (omega arith))
sets_back _ _ long = absurd (omega arith)

-- The lists of the lines of lists are these.
pub lists_back : (lists : Lists) → HasUps lists → lists_in (said_by lists) ≡ lists
lists_back lists ups = back lists.x lists.y lists.z lists.up ups
  where
    back : (xs : List ℕ) (ys zs : List ℤ) (up : List ℕ) → length up ≡ length ys + length zs
        → lists_in (said_by (record { x = xs; y = ys; z = zs; up = up })) ≡ record { x = xs; y = ys; z = zs; up = up }
    back (x ∷ xs) ys zs up long = ap (λ (l : Lists). record l { x = x ∷ l.x }) (back xs ys zs up long)
    back [] (y ∷ ys) zs [] long = absurd (omega arith)
    back [] (y ∷ ys) zs (u ∷ up) long =
        ap (λ (l : Lists). record l { y = y ∷ l.y; up = u ∷ l.up }) (back [] ys zs up (omega arith))
    back [] [] zs up long = search (rules, sets_back zs up (omega arith))

-- No line of a certificate names a floor.
pub no_third : {lists : Lists} → IsWritableCert lists → list_any is_third (said_by lists) ≡ false
no_third {lists} able = none_from_all (may_stand Never) is_third (λ line is. grind arith) (said_by lists) able.allowed

-- None raises one.
pub no_rise : {lists : Lists} → IsWritableCert lists → list_any is_rise (said_by lists) ≡ false
no_rise {lists} able = none_from_all (may_stand Never) is_rise (λ line is. grind arith) (said_by lists) able.allowed
