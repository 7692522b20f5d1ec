-- A line is led dart by dart.
use Rattle.std.proofs.Common.{rules, ◌≡◌, ◌⊎◌, ℕ, suc, ◌+◌, ◌<◌, Bool, true, false, List, length, set, Some, sym, ◌∙◌}
use Rattle.std.proofs.Common.{ap, refl, inl, inr, arith, zero, cond, map, None, ◌≤◌, replicate}
use Rattle.std.proofs.lemmas.Bool.{false≢true, cases_Bool, or_left, or_right, or_cases, cases_lt, false_from_ne_true}
use Rattle.std.proofs.lemmas.List.{get_or-set_same, length-set, length-map, ext_get_or, length-replicate}
use Rattle.std.proofs.lemmas.List.FromFn.{length-range_with_len, get_or-map-range_with_len}
use Rattle.def_mesh.specs.Darts.{darts, all_darts, twin_of}
use Rattle.feature_laws.specs.Leads.{From, IsClosed, IsLedFrom, IsLeading, IsNext, AreLed, is_led_edge}
use Rattle.def_feature.specs.Conforming.{is_source, Line, IsConforming}
use Rattle.feature_laws.proofs.{First.origin_in, First.origin_of, Conforming.follows, Conforming.mark_low}
use Rattle.motion_laws.proofs.{Among.cases_Option, Marks.none_on, Onward.no_more_at}
use Rattle.{std.proofs.lemmas.Option.same_Some, def_mesh.specs.Faces.Faces, def_mesh.specs.Manifold.IsManifold}
use Rattle.{def_cut.specs.FullCut.is_on, def_cut.specs.Motion.is_among, def_feature.specs.Marked.marked_starts}
use Rattle.{def_feature.specs.Marks.AreMarks, sum_laws.proofs.Sums.count_below_lt, def_runs.specs.Runs.follower}
use Rattle.{mesh_laws.proofs.Chains.manifold_law, def_math.specs.Counts.count_below}

-- One mark more.
pub set_there : (xs : List Bool) (k : ℕ) → k < length xs → is_on (set xs k true) k ≡ true
set_there xs k l = get_or-set_same xs k true false l

pub set_kept : (xs : List Bool) (k d : ℕ) → k < length xs → is_on xs d ≡ true → is_on (set xs k true) d ≡ true
set_kept xs k d l on = search rules

set_from : (xs : List Bool) (k d : ℕ) → is_on (set xs k true) d ≡ true → (d ≡ k) ⊎ (is_on xs d ≡ true)
set_from xs k d on = search rules

module _ (faces : Faces) (s : ℕ) (old : List Bool) where
  pub lead_begins : length old ≡ darts faces → s < darts faces → IsClosed faces old
      → IsLeading faces s old (set old s true) s
  lead_begins long low closed = search (rules, set_from, set_kept)

  pub lead_more : (now : List Bool) (at next : ℕ) → length old ≡ darts faces → IsLeading faces s old now at
      → IsNext faces now at (Some next) → IsLeading faces s old (set now next true) next
  lead_more now at next long is (f, low, off) = record {
    long = length-set now next true ∙ is.long;
    low = low;
    closed = λ x e on g. by_mark x e g (set_from now next x on);
    kept = λ d on. set_kept now next d l (is.kept d on);
    there = set_kept now next s l is.there;
    sound = λ d on. elim (set_from now next d on) [ inl e ↦ inr (rw e step) | inr was ↦ is.sound d was ];
    from = step;
  }
    where
      l : next < length now
      l = omega arith

      step : (n : ℕ) × From faces s next n
      step = (suc is.from.0, (at, is.from.1, is.low, f))

      by_mark : (x e : ℕ) → follower faces x ≡ Some e → (x ≡ next) ⊎ (is_on now x ≡ true)
          → (is_on (set now next true) e ≡ true) ⊎ (x ≡ next)
      by_mark x e g (inl same) = inr same
      by_mark x e g (inr on) = elim (is.closed x e on g) [
        | inl y ↦ inl (set_kept now next e l y)
        | inr same ↦ search rules
      ]

-- One source more.
pub led_more : (faces : Faces) (sources old new : List Bool) (d : ℕ) (test : Bool) → d < darts faces
    → test ≡ is_on sources d → AreLed faces sources old d → (test ≡ true → IsLedFrom faces d old new)
    → (test ≡ false → new ≡ old) → AreLed faces sources new (d + 1)
led_more faces sources old new d false low is led on off = search rules
led_more faces sources old new d true low is led on off =
    let line = on refl in
    record {
      long = line.long ∙ led.long;
      closed = line.closed;
      there = search rules;
      sound = λ x y. elim (line.sound x y) [ inl was ↦ led.sound x was | inr path ↦ (d, low, sym is, path.0, path.1) ];
    }

-- What is led from the sources is the conforming cut.

module _ (faces : Faces) (m : IsManifold faces) (marks : List Bool) (starts : List ℕ) (sources led cut : List Bool)
    (started : starts ≡ marked_starts faces marks) (told : (d : ℕ) → is_on sources d
    ≡ cond (is_among d starts) true (is_on marks d)) (are : AreLed faces sources led (darts faces))
    (is : cut ≡ map (λ d. is_led_edge led d (twin_of faces d)) (all_darts faces)) where
  source_from : (d : ℕ) → is_on sources d ≡ true → is_source faces marks d ≡ true
  source_from d y = search (rules, origin_of)

  source_to : (d : ℕ) → d < darts faces → is_source faces marks d ≡ true → is_on sources d ≡ true
  source_to d l y = told d ∙ by_tests (is_among d starts) refl (cases_Bool (is_on marks d))
    where
      by_tests : (b : Bool) → is_among d starts ≡ b → (is_on marks d ≡ true) ⊎ (is_on marks d ≡ false)
          → cond b true (is_on marks d) ≡ true
      by_tests true n k = refl
      by_tests false n (inl on) = on
      by_tests false n (inr off) = search (rules, origin_in)

  line_from : (s d n : ℕ) → is_source faces marks s ≡ true → From faces s d n → Line faces marks d n
  line_from s d zero y path = rw (← path) y
  line_from s d (suc n) y (c, path, l, f) = (c, line_from s c n y path, l, f)

  line_led : (d n : ℕ) → d < darts faces → Line faces marks d n → is_on led d ≡ true
  line_led d zero l y = are.there d l (source_to d l y)
  line_led d (suc n) l (c, line, lc, f) = are.closed c d (line_led c n lc line) f

  led_line : (d : ℕ) → is_on led d ≡ true → (n : ℕ) × Line faces marks d n
  led_line d y = let s = are.sound d y in (s.3, line_from s.0 d s.3 (source_from s.0 s.2) s.4)

  value : (d : ℕ) → d < darts faces → is_on cut d ≡ is_led_edge led d (twin_of faces d)
  value d l = search (rules, get_or-map-range_with_len)

  pub conforms : IsConforming faces marks cut
  conforms = record {
    long = ap length is ∙ (length-map (all_darts faces) (λ d. is_led_edge led d (twin_of faces d))
        ∙ length-range_with_len 0 _);
    lined = λ d l. (
      λ y. elim (cases_Option _) [
        | inl w ↦ inl w
        | inr (t, w) ↦ elim (or_cases _ _ (rw (value d l, w) at y))
            [ inl a ↦ inr (inl (led_line d a)) | inr b ↦ inr (inr (t, w, led_line t b)) ]
      ],
      λ y. elim (cases_Option (twin_of faces d)) [
        | inl w ↦ rw (value d l, w) refl
        | inr (t, w) ↦ rw (value d l, w) (elim y [
          | inl none ↦ absurd cc
          | inr (inl line) ↦ or_left _ _ (line_led d _ l line.1)
          | inr (inr (u, v, line)) ↦
              let same : u ≡ t = same_Some u t (sym v ∙ w) in
              or_right _ _ (ap (is_on led) (sym same) ∙ line_led u _ ((manifold_law faces m).twin_low d u l v) line.1)
        ])
      ],
    );
  }

-- There is one conforming cut.

pub one_conforming : (faces : Faces) (marks one other : List Bool) → IsConforming faces marks one
    → IsConforming faces marks other → one ≡ other
one_conforming faces marks one other a b =
    let same : (d : ℕ) → d < darts faces → is_on one d ≡ is_on other d = search rules in
    ext_get_or false one other (a.long ∙ sym b.long) (λ d l. same d (omega (arith, l, a.long)))

module _ (faces : Faces) (m : IsManifold faces) where
  abbrev unled : (led : List Bool) → ℕ
  unled led = count_below (λ d. cond (is_on led d) 0 1) (darts faces)

  fewer : (led : List Bool) (k : ℕ) → length led ≡ darts faces → k < darts faces → is_on led k ≡ false
      → unled (set led k true) < unled led
  fewer led k long l off =
      let low : k < length led = omega arith in
      let less : cond (is_on (set led k true) k) 0 1 < cond (is_on led k) 0 1 =
      rw (set_there led k low, off) (omega arith) in
      search (rules, count_below_lt, no_more_at, set_kept)

  next_low : (d e : ℕ) → d < darts faces → follower faces d ≡ Some e → e < darts faces
  next_low d e l f =
      let laws = manifold_law faces m in
      let on = (follows faces d e f).1 in
      rw on.2 (laws.next_low on.0 (laws.twin_low _ on.0 (laws.next_low d l) on.1))

  lead_on : (s : ℕ) (old : List Bool) → length old ≡ darts faces → (fuel : ℕ) (now : List Bool) (at : ℕ)
      → IsLeading faces s old now at → unled now < fuel → (new : List Bool) × IsLedFrom faces s old new
  lead_on s old long zero now at is l = absurd (omega arith)
  lead_on s old long (suc fuel) now at is l =
      let go = lead_on s old long fuel in
      elim (cases_Option (follower faces at)) [
        | inl f ↦ (now, done (λ e g. absurd cc))
        | inr (e, f) ↦ elim (cases_Bool (is_on now e)) [
          | inl on ↦ (now, done (λ x g. ap (is_on now) (same_Some x e (sym g ∙ f)) ∙ on))
          | inr off ↦
              let low = next_low at e is.low f in
              go (set now e true) e (lead_more faces s old now at e long is (f, low, off))
              (omega (arith, fewer now e (is.long ∙ long) low off))
        ]
      ]
    where
      done : IsNext faces now at None → IsLedFrom faces s old now
      done end = record {
        long = is.long;
        closed = λ x e on f. elim (is.closed x e on f)
            [ inl y ↦ y | inr same ↦ end e (sym (ap (follower faces) same) ∙ f) ];
        kept = is.kept;
        there = is.there;
        sound = is.sound;
      }

  led_below : (sources : List Bool) (n : ℕ) → n ≤ darts faces → (led : List Bool) × AreLed faces sources led n
  led_below sources zero le = (
    replicate (darts _) false,
    record {
      long = length-replicate (darts _) false;
      closed = search (rules, none_on);
      there = λ d l y. absurd (omega arith);
      sound = search (rules, none_on);
    },
  )
  led_below sources (suc n) le =
      let (led, is) = led_below sources n (omega (arith, le)) in
      elim (cases_Bool (is_on sources n)) [
        | inr y ↦ up led (search rules)
        | inl y ↦
            let line = lead_on n _ is.long (suc (unled (set led n true))) _ n
            (lead_begins _ n _ is.long le is.closed) (omega arith) in
            up line.0 (led_more _ _ _ _ n _ le (sym y) is (λ t. line.1) (λ t. absurd (false≢true (sym t))))
      ]
    where
      up : (new : List Bool) → AreLed faces sources new (n + 1) → (led : List Bool) × AreLed faces sources led (suc n)
      up new r = let step : n + 1 ≡ suc n = omega arith in (new, rw (← step) r)

abbrev is_source_at : (faces : Faces) (marks : List Bool) → ℕ → Bool
is_source_at faces marks d = cond (is_among d (marked_starts faces marks)) true (is_on marks d)

pub a_conforming : (faces : Faces) (marks : List Bool) → IsManifold faces → AreMarks faces marks → (cut : List Bool)
    × IsConforming faces marks cut
a_conforming faces marks m marked =
    let led = led_below faces m sources (darts faces) (omega arith) in
    let cut = map (λ d. is_led_edge led.0 d (twin_of faces d)) (all_darts faces) in
    (cut, conforms faces m marks (marked_starts faces marks) sources led.0 cut refl told led.1 refl)
  where
    sources : List Bool
    sources = map (is_source_at faces marks) (all_darts faces)

    told : (d : ℕ) → is_on sources d ≡ is_source_at faces marks d
    told d = elim (cases_lt d (darts faces)) [
      | inl l ↦ get_or-map-range_with_len (is_source_at faces marks) 0 (darts faces) d d false l (omega arith)
      | inr le ↦ false_from_ne_true _ (λ y. omega (
        arith,
        mark_low sources d y,
        length-map (all_darts faces) (is_source_at faces marks),
        length-range_with_len 0 (darts faces),
      ))
          ∙ none le (is_among d (marked_starts faces marks)) (is_on marks d) refl refl
    ]
      where
        none : (darts faces ≤ d) → (b c : Bool) → is_among d (marked_starts faces marks) ≡ b → is_on marks d ≡ c
            → false ≡ cond b true c
        none le true c n k = absurd (omega (arith, le, (origin_of faces marks d n).0))
        none le false true n k = absurd (omega (arith, mark_low marks d k, marked.long))
        none le false false n k = refl
