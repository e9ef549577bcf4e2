use Rattle.std.proofs.Common.{rules, ◌≡◌, ◌<◌, ◌≤◌, ◌+◌, ◌-◌, ◌*◌, OnOk, length, vec_len, sym, ◌∙◌}
use Rattle.std.proofs.Common.{subst, arith}
use Rattle.agg_laws.specs.Rows.{merged_rows}
use Rattle.star_tree.specs.Flat.{visited}
use Rattle.star_file.specs.Rules.{widths, most_bytes}
use Rattle.star_builder.specs.Building.{Written, bytes_of, children_in, visit_node}
use Rattle.star_builder.proofs.Visits.{leaf_visit, Split, After, facts, over_limit, below_dims}
use Rattle.star_builder.proofs.Visits.{ChildStep, child_step, children_done}
use Rattle.star_builder.specs.Growing.{Becomes, written}
use Rattle.star_builder.proofs.visit.+visit.Goals as goal

pub visit-returns-then-ends_here : goal.visit-returns-then-ends_here
visit-returns-then-ends_here t c =
    subst (λ (x : Written). Becomes c.args.shape.now x c.args.tree.now c.close_leaf.new.tree
    c.close_leaf.result)
    (leaf_visit c.args.shape.now c.args.level c.args.at c.bounds-start.result.0
    c.bounds-start.result.1 (written c.args.tree.now) c.requires.stands c.bounds-start.ensures.start
    c.bounds-start.ensures.end (sym c.ends_here.ensures ∙ c.if-ends_here.true))
    c.close_leaf.ensures

pub visit-returns-then-not-they_fit : goal.visit-returns-then-not-they_fit
visit-returns-then-not-they_fit t c =
    let f : Written = written c.args.tree.now in
    let o : Written = written c.open_node.new.tree in
    let first_is : c.len-first.result ≡ length f.0 = search rules in
    let children_is : c.len.result - c.len-first.result
    ≡ length o.0 - c.len-first.result = search rules in
    let sp : Split c.args.shape.now c.args.level c.args.at c.bounds-start.result.0
    c.bounds-start.result.1 f o c.len-first.result (c.len.result - c.len-first.result)
    c.in_ok-starred.starred =
    facts c.args.shape.now c.args.level c.args.at c.bounds-start.result.0 c.bounds-start.result.1 f
    c.requires.stands c.bounds-start.ensures.start c.bounds-start.ensures.end c.requires.levels
    (sym c.ends_here.ensures ∙ c.if-ends_here.false) o c.in_ok-starred.ensures.opens
    c.in_ok-starred.starred c.in_ok-starred.ensures.star c.len-first.result (c.len.result -
    c.len-first.result) first_is children_is in
    let len : c.len.result ≡ length o.0 = search rules in
    let over : most_bytes < bytes_of c.args.shape.now o =
    subst (λ n. most_bytes < (4 * c.args.shape.now.dims + widths c.args.shape.now.kinds) * length
    o.1 + 28 * n) len (over_limit c.they_fit.result ((4 * c.args.shape.now.dims + widths
    c.args.shape.now.kinds) * length o.1 + 28 * c.len.result) most_bytes c.they_fit.ensures
    c.if-not-they_fit.true) in
    record {
      ok = tt;
      fits = tt;
      too_large = λ _. omega (arith, over, sp.bytes c.args.shape.now);
      dims = c.open_node.ensures.shape.dims;
      kinds = c.open_node.ensures.shape.kinds;
    }

pub visit-visit_children-requires : goal.visit-visit_children-requires
visit-visit_children-requires t c =
    let f : Written = written c.args.tree.now in
    let o : Written = written c.open_node.new.tree in
    let first_is : c.len-first.result ≡ length f.0 = search rules in
    let children_is : c.len-2.result - c.len-first.result
    ≡ length o.0 - c.len-first.result = search rules in
    let sp : Split c.args.shape.now c.args.level c.args.at c.bounds-start.result.0
    c.bounds-start.result.1 f o c.len-first.result (c.len-2.result - c.len-first.result)
    c.in_ok-starred.starred =
    facts c.args.shape.now c.args.level c.args.at c.bounds-start.result.0 c.bounds-start.result.1 f
    c.requires.stands c.bounds-start.ensures.start c.bounds-start.ensures.end c.requires.levels
    (sym c.ends_here.ensures ∙ c.if-ends_here.false) o c.in_ok-starred.ensures.opens
    c.in_ok-starred.starred c.in_ok-starred.ensures.star c.len-first.result (c.len-2.result -
    c.len-first.result) first_is children_is in
    let len : c.len.result ≡ length o.0 = search rules in
    let len2 : vec_len c.open_node.new.tree.nodes ≡ length o.0 = search rules in
    let lt : c.args.level < c.args.shape.now.dims = below_dims c.args.shape.now c.args.level
    (c.bounds-start.result.1 - c.bounds-start.result.0) c.requires.levels (sym
    c.ends_here.ensures ∙ c.if-ends_here.false) in
    let small : bytes_of c.args.shape.now o ≤ most_bytes = subst (λ n. (4 * c.args.shape.now.dims +
    widths c.args.shape.now.kinds) * length o.1 + 28 * n ≤ most_bytes) len
    (c.they_fit.ensures.0 c.if-not-they_fit.false) in (
      omega (arith, c.decreases, lt),
      record {
        bounded = c.requires.bounded;
        levels = lt;
        dims = c.open_node.ensures.shape.dims ∙ c.requires.dims;
        order = sp.order;
        inside = sp.inside;
        within = sp.known;
        all = sp.children_is;
        stand = sp.stand;
        small = small;
      },
    )

pub visit-returns-in-Err : goal.visit-returns-in-Err
visit-returns-in-Err t c =
    let f : Written = written c.args.tree.now in
    let o : Written = written c.open_node.new.tree in
    let first_is : c.len-first.result ≡ length f.0 = search rules in
    let children_is : c.len-2.result - c.len-first.result
    ≡ length o.0 - c.len-first.result = search rules in
    let sp : Split c.args.shape.now c.args.level c.args.at c.bounds-start.result.0
    c.bounds-start.result.1 f o c.len-first.result (c.len-2.result - c.len-first.result)
    c.in_ok-starred.starred =
    facts c.args.shape.now c.args.level c.args.at c.bounds-start.result.0 c.bounds-start.result.1 f
    c.requires.stands c.bounds-start.ensures.start c.bounds-start.ensures.end c.requires.levels
    (sym c.ends_here.ensures ∙ c.if-ends_here.false) o c.in_ok-starred.ensures.opens
    c.in_ok-starred.starred c.in_ok-starred.ensures.star c.len-first.result (c.len-2.result -
    c.len-first.result) first_is children_is in
    record {
      ok = tt;
      fits = tt;
      too_large = λ e. (let over = c.in-Err.ensures.too_large e in
          omega (arith, over, sp.bytes_after c.args.shape.now));
      dims = c.in-Err.ensures.dims ∙ c.open_node.ensures.shape.dims;
      kinds = c.in-Err.ensures.kinds ∙ c.open_node.ensures.shape.kinds;
    }

pub visit-close_split-requires-clause-tree : goal.visit-close_split-requires-clause-tree
visit-close_split-requires-clause-tree t c =
    let f : Written = written c.args.tree.now in
    let o : Written = written c.open_node.new.tree in
    let first_is : c.len-first.result ≡ length f.0 = search rules in
    let children_is : c.len-2.result - c.len-first.result
    ≡ length o.0 - c.len-first.result = search rules in
    let sp : Split c.args.shape.now c.args.level c.args.at c.bounds-start.result.0
    c.bounds-start.result.1 f o c.len-first.result (c.len-2.result - c.len-first.result)
    c.in_ok-starred.starred =
    facts c.args.shape.now c.args.level c.args.at c.bounds-start.result.0 c.bounds-start.result.1 f
    c.requires.stands c.bounds-start.ensures.start c.bounds-start.ensures.end c.requires.levels
    (sym c.ends_here.ensures ∙ c.if-ends_here.false) o c.in_ok-starred.ensures.opens
    c.in_ok-starred.starred c.in_ok-starred.ensures.star c.len-first.result (c.len-2.result -
    c.len-first.result) first_is children_is in
    let h : Written = written c.visit_children.new.tree in
    let af : After c.args.shape.now c.args.level c.args.at f h c.len-first.result (c.len-2.result -
    c.len-first.result) c.in_ok-starred.starred = sp.after h c.in_default.ensures.ok in
    record {
      bounded = c.requires.bounded;
      levels = c.requires.levels;
      dims = c.in_default.ensures.dims ∙ c.open_node.ensures.shape.dims ∙ c.requires.dims;
      stands = af.stands;
      small = c.in_default.ensures.fits;
    }

pub visit-close_split-requires-clause-some : goal.visit-close_split-requires-clause-some
visit-close_split-requires-clause-some t c =
    let f : Written = written c.args.tree.now in
    let o : Written = written c.open_node.new.tree in
    let first_is : c.len-first.result ≡ length f.0 = search rules in
    let children_is : c.len-2.result - c.len-first.result
    ≡ length o.0 - c.len-first.result = search rules in
    let sp : Split c.args.shape.now c.args.level c.args.at c.bounds-start.result.0
    c.bounds-start.result.1 f o c.len-first.result (c.len-2.result - c.len-first.result)
    c.in_ok-starred.starred =
    facts c.args.shape.now c.args.level c.args.at c.bounds-start.result.0 c.bounds-start.result.1 f
    c.requires.stands c.bounds-start.ensures.start c.bounds-start.ensures.end c.requires.levels
    (sym c.ends_here.ensures ∙ c.if-ends_here.false) o c.in_ok-starred.ensures.opens
    c.in_ok-starred.starred c.in_ok-starred.ensures.star c.len-first.result (c.len-2.result -
    c.len-first.result) first_is children_is in
    let h : Written = written c.visit_children.new.tree in
    let af : After c.args.shape.now c.args.level c.args.at f h c.len-first.result (c.len-2.result -
    c.len-first.result) c.in_ok-starred.starred = sp.after h c.in_default.ensures.ok in
    sp.some

pub visit-close_split-requires-clause-within : goal.visit-close_split-requires-clause-within
visit-close_split-requires-clause-within t c =
    let f : Written = written c.args.tree.now in
    let o : Written = written c.open_node.new.tree in
    let first_is : c.len-first.result ≡ length f.0 = search rules in
    let children_is : c.len-2.result - c.len-first.result
    ≡ length o.0 - c.len-first.result = search rules in
    let sp : Split c.args.shape.now c.args.level c.args.at c.bounds-start.result.0
    c.bounds-start.result.1 f o c.len-first.result (c.len-2.result - c.len-first.result)
    c.in_ok-starred.starred =
    facts c.args.shape.now c.args.level c.args.at c.bounds-start.result.0 c.bounds-start.result.1 f
    c.requires.stands c.bounds-start.ensures.start c.bounds-start.ensures.end c.requires.levels
    (sym c.ends_here.ensures ∙ c.if-ends_here.false) o c.in_ok-starred.ensures.opens
    c.in_ok-starred.starred c.in_ok-starred.ensures.star c.len-first.result (c.len-2.result -
    c.len-first.result) first_is children_is in
    let h : Written = written c.visit_children.new.tree in
    let af : After c.args.shape.now c.args.level c.args.at f h c.len-first.result (c.len-2.result -
    c.len-first.result) c.in_ok-starred.starred = sp.after h c.in_default.ensures.ok in
    let len3 : vec_len c.visit_children.new.tree.nodes ≡ length h.0 = search rules in
    subst (λ n. c.len-first.result + (c.len-2.result - c.len-first.result) ≤ n) (sym len3) af.known

pub visit-returns : goal.visit-returns
visit-returns t c =
    let f : Written = written c.args.tree.now in
    let o : Written = written c.open_node.new.tree in
    let first_is : c.len-first.result ≡ length f.0 = search rules in
    let children_is : c.len-2.result - c.len-first.result
    ≡ length o.0 - c.len-first.result = search rules in
    let sp : Split c.args.shape.now c.args.level c.args.at c.bounds-start.result.0
    c.bounds-start.result.1 f o c.len-first.result (c.len-2.result - c.len-first.result)
    c.in_ok-starred.starred =
    facts c.args.shape.now c.args.level c.args.at c.bounds-start.result.0 c.bounds-start.result.1 f
    c.requires.stands c.bounds-start.ensures.start c.bounds-start.ensures.end c.requires.levels
    (sym c.ends_here.ensures ∙ c.if-ends_here.false) o c.in_ok-starred.ensures.opens
    c.in_ok-starred.starred c.in_ok-starred.ensures.star c.len-first.result (c.len-2.result -
    c.len-first.result) first_is children_is in
    let h : Written = written c.visit_children.new.tree in
    let af : After c.args.shape.now c.args.level c.args.at f h c.len-first.result (c.len-2.result -
    c.len-first.result) c.in_ok-starred.starred = sp.after h c.in_default.ensures.ok in
    record {
      ok = subst (λ (x : Written). OnOk c.close_split.result (◌≡◌ {A = Written}
          (written c.close_split.new.tree) x)) af.is c.close_split.ensures.ok;
      fits = c.close_split.ensures.fits;
      too_large = λ e. subst (λ (x : Written). most_bytes < bytes_of c.args.shape.now x) af.is
          (c.close_split.ensures.too_large e);
      dims = c.close_split.ensures.dims ∙ c.in_default.ensures.dims
          ∙ c.open_node.ensures.shape.dims;
      kinds = c.close_split.ensures.kinds ∙ c.in_default.ensures.kinds
          ∙ c.open_node.ensures.shape.kinds;
    }

pub visit_children-visit-requires : goal.visit_children-visit-requires
visit_children-visit-requires t c =
    let before : Written = written c.args.tree.now in
    let f : Written = written c.loop-i.tree in
    let subtrees = children_in c.args.shape.now c.args.level c.args.start c.args.end before in
    let st : ChildStep c.args.shape.now c.args.level c.args.first c.loop-i.i subtrees f = child_step
    c.args.shape.now c.args.level c.args.first c.loop-i.i subtrees f c.requires.levels (subst (λ n.
    c.loop-i.i < n) c.requires.all c.loop-i-test.true) c.loop-i.invariant.stand in (
      omega (arith, c.decreases, c.requires.levels),
      record {
        bounded = c.requires.bounded;
        levels = omega (arith, c.requires.levels);
        dims = c.loop-i.invariant.dims ∙ c.requires.dims;
        stands = st.stands;
        small = c.loop-i.invariant.small;
      },
    )

pub visit_children-returns-in-Err : goal.visit_children-returns-in-Err
visit_children-returns-in-Err t c =
    let before : Written = written c.args.tree.now in
    let f : Written = written c.loop-i.tree in
    let subtrees = children_in c.args.shape.now c.args.level c.args.start c.args.end before in
    let st : ChildStep c.args.shape.now c.args.level c.args.first c.loop-i.i subtrees f = child_step
    c.args.shape.now c.args.level c.args.first c.loop-i.i subtrees f c.requires.levels (subst (λ n.
    c.loop-i.i < n) c.requires.all c.loop-i-test.true) c.loop-i.invariant.stand in
    let more : bytes_of c.args.shape.now (visit_node c.args.shape.now (c.args.level + 1)
    (c.args.first + c.loop-i.i) f) ≤ bytes_of c.args.shape.now (visited merged_rows
    (c.args.level + 1) c.args.first subtrees before) =
    subst (λ (x : Written). bytes_of c.args.shape.now (visit_node c.args.shape.now (c.args.level +
    1) (c.args.first + c.loop-i.i) f) ≤ bytes_of c.args.shape.now x) c.loop-i.invariant.left
    (st.bytes c.args.shape.now) in
    record {
      ok = tt;
      fits = tt;
      too_large = λ e. (let over = c.in-Err.ensures.too_large e in omega (arith, over, more));
      dims = c.in-Err.ensures.dims ∙ c.loop-i.invariant.dims;
      kinds = c.in-Err.ensures.kinds ∙ c.loop-i.invariant.kinds;
    }

pub visit_children-loop-i-preserved : goal.visit_children-loop-i-preserved
visit_children-loop-i-preserved t c =
    let before : Written = written c.args.tree.now in
    let f : Written = written c.loop-i.tree in
    let subtrees = children_in c.args.shape.now c.args.level c.args.start c.args.end before in
    let st : ChildStep c.args.shape.now c.args.level c.args.first c.loop-i.i subtrees f = child_step
    c.args.shape.now c.args.level c.args.first c.loop-i.i subtrees f c.requires.levels (subst (λ n.
    c.loop-i.i < n) c.requires.all c.loop-i-test.true) c.loop-i.invariant.stand in
    let h : Written = written c.visit.new.tree in
    let is : h ≡ visit_node c.args.shape.now (c.args.level + 1) (c.args.first + c.loop-i.i) f =
    c.in_default.ensures.ok in
    record {
      left = st.is h is ∙ c.loop-i.invariant.left;
      stand = st.stand h is;
      longer = omega (arith, st.longer h is, c.loop-i.invariant.longer);
      dims = c.in_default.ensures.dims ∙ c.loop-i.invariant.dims;
      kinds = c.in_default.ensures.kinds ∙ c.loop-i.invariant.kinds;
      small = c.in_default.ensures.fits;
    }

pub visit_children-returns : goal.visit_children-returns
visit_children-returns t c =
    let before : Written = written c.args.tree.now in
    let f : Written = written c.loop-i.tree in
    let subtrees = children_in c.args.shape.now c.args.level c.args.start c.args.end before in
    record {
      ok = children_done (c.args.level + 1) c.args.first c.loop-i.i subtrees f (visited merged_rows
          (c.args.level + 1) c.args.first subtrees before) (subst (λ n. n ≤ c.loop-i.i)
          c.requires.all c.loop-i-test.false) c.loop-i.invariant.left;
      fits = c.loop-i.invariant.small;
      too_large = λ e. cc;
      dims = c.loop-i.invariant.dims;
      kinds = c.loop-i.invariant.kinds;
    }
