use Rattle.std.proofs.Common.{◌≡◌, ◌+◌, ◌*◌, ◌<◌, ◌≤◌, ◌∷◌, [], List, length, ap, subst, ◌∙◌, arith}
use Rattle.std.proofs.Common.{rules, Err}
use Rattle.star_tree.specs.declared.node.Node.{Node}
use Rattle.agg_laws.specs.Tree.{star}
use Rattle.star_tree.specs.Flat.{blank}
use Rattle.star_file.specs.Rules.{most_bytes, widths}
use Rattle.star_builder.specs.declared.fault.TreeFault.TheVariants.{TooLarge}
use Rattle.star_builder.specs.Building.{Written, bytes_of}
use Rattle.star_builder.proofs.Visits.{over_limit}
use Rattle.star_builder.proofs.Whole.{Root, root}
use Rattle.star_builder.proofs.build.grow.Goals as goal

pub returns-then-not-they_fit-clause-too_large : goal.returns-then-not-they_fit-clause-too_large
returns-then-not-they_fit-clause-too_large c e =
    let docs = c.args.docs.docs in
    let f : Written = (c.in_ok-nodes.nodes.items, docs) in
    let nodes : c.in_ok-nodes.nodes.items ≡ blank 0 star 0 (length docs) ∷ [] =
    c.in_ok-nodes.ensures ∙ ap (λ n. blank 0 star 0 n ∷ []) c.len.ensures.count in
    let r : Root c.args.shape.now docs f = root c.args.shape.now docs f c.requires.some
    c.requires.proper (ap (λ (ns : List Node). (ns, docs)) nodes) in
    let len : c.len-2.result ≡ length f.0 = search rules in
    let w = 4 * c.args.shape.now.dims + widths c.args.shape.now.kinds in
    let over : most_bytes < bytes_of c.args.shape.now f =
    subst (λ n. most_bytes < w * length f.1 + 28 * n) len
    (over_limit c.they_fit.result (w * length f.1 + 28 * c.len-2.result) most_bytes
    c.they_fit.ensures c.if-not-they_fit.true) in
    let more = r.bytes c.args.shape.now in
    omega (arith, over, more)

pub returns-in-Err-clause-too_large : goal.returns-in-Err-clause-too_large
returns-in-Err-clause-too_large c e =
    let docs = c.args.docs.docs in
    let f : Written = (c.in_ok-nodes.nodes.items, docs) in
    let nodes : c.in_ok-nodes.nodes.items ≡ blank 0 star 0 (length docs) ∷ [] =
    c.in_ok-nodes.ensures ∙ ap (λ n. blank 0 star 0 n ∷ []) c.len.ensures.count in
    let r : Root c.args.shape.now docs f = root c.args.shape.now docs f c.requires.some
    c.requires.proper (ap (λ (ns : List Node). (ns, docs)) nodes) in
    subst (λ (x : Written). most_bytes < bytes_of c.args.shape.now x) r.is
    (let same : c.in-Err.fault ≡ TooLarge = cc in c.in-Err.ensures.too_large (ap (λ x. Err x) same))

pub visit-requires : goal.visit-requires
visit-requires c =
    let docs = c.args.docs.docs in
    let f : Written = (c.in_ok-nodes.nodes.items, docs) in
    let nodes : c.in_ok-nodes.nodes.items ≡ blank 0 star 0 (length docs) ∷ [] =
    c.in_ok-nodes.ensures ∙ ap (λ n. blank 0 star 0 n ∷ []) c.len.ensures.count in
    let r : Root c.args.shape.now docs f = root c.args.shape.now docs f c.requires.some
    c.requires.proper (ap (λ (ns : List Node). (ns, docs)) nodes) in
    let len : c.len-2.result ≡ length f.0 = search rules in
    let w = 4 * c.args.shape.now.dims + widths c.args.shape.now.kinds in
    record {
      bounded = c.requires.bounded;
      levels = omega arith;
      dims = c.requires.dims;
      stands = r.stands;
      small = subst (λ n. w * length f.1 + 28 * n ≤ most_bytes) len
          (c.they_fit.ensures.0 c.if-not-they_fit.false);
    }

pub returns-clause-grown : goal.returns-clause-grown
returns-clause-grown c =
    let docs = c.args.docs.docs in
    let f : Written = (c.in_ok-nodes.nodes.items, docs) in
    let nodes : c.in_ok-nodes.nodes.items ≡ blank 0 star 0 (length docs) ∷ [] =
    c.in_ok-nodes.ensures ∙ ap (λ n. blank 0 star 0 n ∷ []) c.len.ensures.count in
    let r : Root c.args.shape.now docs f = root c.args.shape.now docs f c.requires.some
    c.requires.proper (ap (λ (ns : List Node). (ns, docs)) nodes) in
    record {
      flat_is = ap (λ (ns : List Node). (ns, c.visit.new.tree.docs.docs)) c.from_vec.ensures
          ∙ c.in_default.ensures.ok ∙ r.is;
      dims = c.in_default.ensures.dims;
      kinds = c.in_default.ensures.kinds;
      fits = subst (λ (x : Written). bytes_of c.args.shape.now x ≤ most_bytes)
          (c.in_default.ensures.ok ∙ r.is) c.in_default.ensures.fits;
    }
