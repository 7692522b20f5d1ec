use Rattle.std.proofs.Common.{rules, Bool, List, Ok, arith, false, is_some, length, ltb, map, not, refl, sym, true}
use Rattle.std.proofs.Common.{◌&&◌, ◌||◌, ap, ◌∙◌, ◌≡◌}
use Rattle.{std.proofs.lemmas.List.with_items_is, def_marks.specs.Chains.is_chain, def_marks.specs.Chains.runs_along}
use Rattle.def_marks.specs.Lines.{corner_index, is_malformed, is_nothing, named_chain}
use Rattle.qm_marks.proofs.AllWishes.{chain_is, nothing_is, well_formed}
use Rattle.qm_marks.proofs.lines.MarkReader.take_corners.Goals.{After-mark_chain, After-names_nothing}
use Rattle.{std.specs.List.list_any, def_cut.specs.FullCut.is_on, def_mesh.specs.Darts.twin_of}
use Rattle.{def_mesh.specs.Darts.darts, def_text.specs.Words.words}
use Rattle.qm_marks.proofs.lines.MarkReader.take_corners.Goals as goal

-- What is known of the corners once they are read.
known : (c : After-names_nothing) → (is_malformed (words c.args.text.now) ≡ false)
    × (c.read_corners.new.indices.items ≡ map (corner_index c.args.self.now.all c.args.self.now.before)
    (words c.args.text.now))
    × (c.names_nothing.result ≡ list_any
    (λ word. is_nothing (corner_index c.args.self.now.all c.args.self.now.before word)) (words c.args.text.now))
known c =
    let all = c.args.self.now.all in
    let before = c.args.self.now.before in
    let corners = words c.args.text.now in
    let right = c.in_ok-right.right in
    let indices = c.read_corners.new.indices.items in
    let are : right ≡ true → indices ≡ map (corner_index all before) corners =
    λ on. c.in_ok-right.ensures.indices (ap Ok on) in
    let many : c.len.result ≡ length indices = c.len.ensures ∙ c.read_corners.new.indices.ok.0 in
    let off : (ltb (length indices) 2 || not right) ≡ false = ap (λ n. ltb n 2 || not right) (sym many)
    ∙ (sym c.lacks_corners.ensures ∙ c.if-lacks_corners.false) in
    let (proper, they) = well_formed all before corners right indices c.in_ok-right.ensures.corners are off in (
      proper,
      they,
      c.names_nothing.ensures ∙ (ap (list_any is_nothing) c.deref.ensures.value
          ∙ nothing_is all before corners indices they),
    )

pub returns-then-names_nothing-clause-refused : goal.returns-then-names_nothing-clause-refused
returns-then-names_nothing-clause-refused c other =
    let k = known (goal.at.returns-then-names_nothing-clause-refused c).After-names_nothing in
    rw (k.0, sym k.2 ∙ c.if-names_nothing.true) refl

-- The chain whose edges are marked, and whether it is one.
chain : (c : After-mark_chain) → c.read_corners.new.indices.items
    ≡ map (corner_index c.args.self.now.all c.args.self.now.before) (words c.args.text.now) → c.deref-5.result.now
    ≡ named_chain c.args.soup.now.names c.args.self.now.all c.args.self.now.before (words c.args.text.now)
chain c they = search (rules, chain_is)

linked : (c : After-mark_chain) → c.read_corners.new.indices.items
    ≡ map (corner_index c.args.self.now.all c.args.self.now.before) (words c.args.text.now)
    → is_chain c.args.soup.now.faces (named_chain c.args.soup.now.names c.args.self.now.all c.args.self.now.before
    (words c.args.text.now)) ≡ c.mark_chain.result
linked c they = sym (c.mark_chain.ensures.chain ∙ (λ i. is_chain (c.requires.reads.same i) (chain c they i)))

pub returns-then-not-mark_chain-clause-refused : goal.returns-then-not-mark_chain-clause-refused
returns-then-not-mark_chain-clause-refused c other =
    let k = known (goal.at.returns-then-not-mark_chain-clause-refused c).After-names_nothing in
    let at = (goal.at.returns-then-not-mark_chain-clause-refused c).After-mark_chain in
    rw (k.0, sym k.2 ∙ c.if-names_nothing.false, linked at k.1 ∙ c.if-not-mark_chain.true) refl

pub returns-clause-took : goal.returns-clause-took
returns-clause-took c =
    let k = known (goal.at.returns-clause-took c).After-names_nothing in
    let at = (goal.at.returns-clause-took c).After-mark_chain in
    let items = with_items_is c.args.self.now.marks c.mark_chain.new.marks (c.mark_chain.auto.marks
    ∙ c.deref_mut.ensures.len) in
    record {
      accepted = rw (k.0, sym k.2 ∙ c.if-names_nothing.false, linked at k.1 ∙ c.if-not-mark_chain.false) refl;
      same = record {
        all = refl;
        keys = refl;
        long = ap length items ∙ (c.mark_chain.ensures.long ∙ ap darts c.requires.reads.same);
      };
      before = refl;
      marked = λ d l. ap (λ (xs : List Bool). is_on xs d) items ∙ (c.mark_chain.ensures.marks c.if-not-mark_chain.false
          d (omega (arith, ap darts c.requires.reads.same)) ∙ (λ i. is_on (c.deref_mut.ensures.value i) d ||
          (is_some (twin_of (c.requires.reads.same i) d) && runs_along (c.requires.reads.same i) (chain at k.1 i) d)));
    }
