-- The certificates that lines tell are within the limits of the checker.
use Rattle.std.proofs.Common.{rules, true, [], refl, List, ◌+◌, ◌^◌, ℤ, pos, ◌∷◌, inl, get_or, ℕ, sym, ◌≤◌, suc, ◌≡◌}
use Rattle.std.proofs.Common.{arith, drop, length, ap, ◌<◌, subst, length-append, ◌∙◌, false, if◌then◌else◌, ◌-◌, inr}
use Rattle.std.proofs.lemmas.Bool.{and_from, and_parts, ltb-true, cases_lt, false≢true, leb-true}
use Rattle.std.proofs.lemmas.List.{length-map, length-drop, get_or_append_left, length-take}
use Rattle.std.proofs.lemmas.List.Sums.{count_by-le-length, length-filter}
use Rattle.{std.proofs.Math.Seq.get_or-append_right, def_text.specs.declared.limits.TheConstants.MAX_BYTES}
use Rattle.{def_io.specs.Bytes.Bytes, qm_check.specs.Checked.AreInReach, qm_check.specs.Checked.IsInReach}
use Rattle.{def_io.specs.Lines.lines_of, remesh_laws.proofs.Solved.all_drop, remesh_laws.proofs.Solved.all_take}
use Rattle.{std.specs.Prelude.⊤, std.specs.Prelude.unsigned_abs, qm_io.proofs.Cuts.lines_few}
use Rattle.{def_certtext.specs.declared.CertLine.CertLine, def_flow.specs.declared.limits.TheConstants.MAX_LENGTH}
use Rattle.std.specs.List.{list_all, after_first, list_any, flat_map, before_first}
use Rattle.def_certtext.specs.Reading.{TellCerts, lists_in, is_third, set_in, vertex_in, certificates_in, is_hash_line}
use Rattle.def_certtext.specs.Reading.{may_stand, certificates_by, length_in}
use Rattle.def_certtext.specs.CertLines.{raised, Certificates, alone, line_text}
use Rattle.def_certtext.specs.Rounds.{put_rise, Part, parts_of, put_line}
use Rattle.def_certtext.specs.declared.certs.Rising.TheVariants.{Never, Rounds, Third}
use Rattle.def_certtext.specs.{declared.certs.Rise.Rise as AnyRise, declared.certs.Rising.Rising}

-- Where each line adds one entry at most, lines add no more entries than they are.
few_in : {X : Type 0} (f : CertLine → List X) → ((line : CertLine) → length (f line) ≤ 1) → (said : List CertLine)
    → length (flat_map f said) ≤ length said
few_in f one [] = omega arith
few_in f one (line ∷ said) = omega (arith, one line, few_in f one said, length-append (f line) (flat_map f said))

-- What holds of each entry that a line which may stand adds holds of all entries.
each_in : {X : Type 0} (P : X → Type 0) (rising : Rising) (f : CertLine → List X) (d : X)
    → ((line : CertLine) → may_stand rising line ≡ true → (k : ℕ) → k < length (f line) → P (get_or (f line) k d))
    → (said : List CertLine) → list_all (may_stand rising) said ≡ true → (k : ℕ) → k < length (flat_map f said)
    → P (get_or (flat_map f said) k d)
each_in P rising f d one [] all k l = absurd (omega (arith, l))
each_in P rising f d one (line ∷ said) all k l = elim (cases_lt k (length (f line))) [
  | inl low ↦ subst P (sym (get_or_append_left (f line) (flat_map f said) d k low))
      (one line (and_parts _ _ all).0 k low)
  | inr high ↦ subst P (sym (get_or-append_right (f line) (flat_map f said) k d high)) (each_in P rising f d one said
      (and_parts _ _ all).1 (k - length (f line)) (omega (arith, l, high, length-append (f line) (flat_map f said))))
]

-- No floor is named where floors do not rise.
no_floor : (said : List CertLine) → list_all (may_stand Never) said ≡ true → list_any is_third said ≡ false
no_floor [] all = refl
no_floor (line ∷ said) all =
    let rest = no_floor said (and_parts (may_stand Never line) (list_all (may_stand Never) said) all).1 in search rules

module _ (rising : Rising) where
  in_reach : (said : List CertLine) → list_all (may_stand rising) said ≡ true → length said ≤ MAX_BYTES
      → IsInReach (lists_in said)
  in_reach said all few = record {
    few = omega (arith, few, few_in length_in (λ line. grind arith) said);
    short = each_in (λ (n : ℕ). n ≤ MAX_LENGTH) rising length_in 0 (λ line may k l. search (rules, leb-true)) said all;
    small = record {
      sets = omega (arith, few, few_in set_in (λ line. grind arith) said);
      small_y = each_in (λ (y : ℤ). unsigned_abs y < 10 ^ 18) rising vertex_in (pos 0)
          (λ line may k l. search (rules, ltb-true, and_parts)) said all;
      small_z = each_in (λ (z : ℤ). unsigned_abs z < 10 ^ 18) rising set_in (pos 0)
          (λ line may k l. search (rules, ltb-true, and_parts)) said all;
    };
  }

  -- Certificates before and behind a `#f 3`.
  parted_reach : (said : List CertLine) → (list_any is_third said ≡ true → rising ≡ Third)
      → list_all (may_stand rising) said ≡ true → length said ≤ MAX_BYTES
      → AreInReach rising (if list_any is_third said then raised (lists_in (before_first is_third said))
      (lists_in (after_first is_third said)) else alone (lists_in said))
  parted_reach said third all few = search (rules, in_reach, all_take, length-take, all_drop, length-drop)

-- ---- Rounds.

-- How many lines parts have.
abbrev held : (parts : List Part) → ℕ
held [] = 0
held (part ∷ parts) = length part.said + held parts

-- The lines of parts may stand.
abbrev MayStand : (parts : List Part) → Type 0
MayStand [] = ⊤
MayStand (part ∷ parts) = (list_all (may_stand Rounds) part.said ≡ true) × MayStand parts

-- A line in front of parts is one more of theirs, or raises a floor.
rise_both : (rise : AnyRise) (parts : List Part)
    → (held (put_rise rise parts) ≡ held parts) × (MayStand parts → MayStand (put_rise rise parts))
rise_both rise parts = search rules

line_both : (line : CertLine) (parts : List Part) → may_stand Rounds line ≡ true
    → (held (put_line line parts) ≡ suc (held parts)) × (MayStand parts → MayStand (put_line line parts))
line_both line [] may = (refl, λ all. (and_from _ _ may refl, tt))
line_both line (part ∷ parts) may = (omega arith, λ all. (and_from _ _ may all.0, all.1))

parts_both : (said : List CertLine) → list_all (may_stand Rounds) said ≡ true
    → (held (parts_of said) ≤ length said) × MayStand (parts_of said)
parts_both [] all = (omega arith, tt)
parts_both (line ∷ said) all =
    let (stands, rest) = and_parts (may_stand Rounds line) (list_all (may_stand Rounds) said) all in
    let (few, may) = parts_both said rest in
    search (rules, rise_both, line_both line (parts_of said) stands)

parts_reach : (parts : List Part) → MayStand parts → held parts ≤ MAX_BYTES → AreInReach Rounds (certificates_by parts)
parts_reach [] may few = in_reach Rounds [] refl (omega arith)
parts_reach (part ∷ parts) may few =
    let first = in_reach Rounds part.said may.0 (omega (arith, few)) in
    let after = parts_reach parts may.1 (omega (arith, few)) in
    search (rules, first, after)

-- Whatever way floors rise.
all_in_reach : (rising : Rising) (said : List CertLine) → list_all (may_stand rising) said ≡ true
    → length said ≤ MAX_BYTES → AreInReach rising (certificates_in rising said)
all_in_reach Never said all few =
    parted_reach Never said (λ third. absurd (false≢true (sym (no_floor said all) ∙ third))) all few
all_in_reach Third said all few = parted_reach Third said (λ third. refl) all few
all_in_reach Rounds said all few = search (rules, parts_both, parts_reach)

-- The certificates that a text tells are within the limits.
pub told_reach : (bytes : Bytes) (line : ℕ) (rising : Rising) (certificates : Certificates) → length bytes ≤ MAX_BYTES
    → TellCerts rising (drop (line + 1) (lines_of bytes)) certificates → AreInReach rising certificates
told_reach bytes line rising certificates few told =
    let behind = drop (line + 1) (lines_of bytes) in
    let all = length-drop (line + 1) (lines_of bytes) in
    let hashed = length-filter is_hash_line behind in
    let most = count_by-le-length is_hash_line behind in
    let texts = length-map told.said line_text in
    rw told.are (all_in_reach rising told.said told.allowed (omega (arith, lines_few bytes, ap length told.texts)))
