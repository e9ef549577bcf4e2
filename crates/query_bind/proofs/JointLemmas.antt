-- The normal form of conditions that are joined, as members.
use Rattle.std.proofs.Common.{◌≡◌, Bool, true, false, List, [], ◌∷◌, map, refl, sym, ap, ◌∙◌}
use Rattle.std.proofs.lemmas.List.Folds.{flat_map-map}
use Rattle.table_schema.specs.declared.field.Field.{Field}
use Rattle.table_schema.specs.declared.query.Wide.TheVariants as wide
use Rattle.query_tokens.specs.declared.tree.Cond.{Cond}
use Rattle.query_tokens.specs.declared.tree.Cond.TheVariants as cond
use Rattle.query_tokens.specs.declared.tree.Cond.TheVariants.{rolls-All, rolls-Any}
use Rattle.query_tokens.specs.declared.tree.Cond.TheOpen.{Cond-F}
use Rattle.query_tokens.specs.declared.tree.Cond.TheFolds.{fold-roll-Cond}
use Rattle.query_bind.specs.declared.normal.Joint.{Joint}
use Rattle.query_bind.specs.declared.normal.Joint.TheVariants as joint
use Rattle.query_bind.specs.Written.{Written, All, Any, members_of, written_step, written}
use Rattle.query_bind.specs.Conjuncts.{conjoined, disjoined, all_of, any_of, normal, normals}
use Rattle.query_bind.specs.Joints.{other_if, join, parts, gathered, all_gathered}

pub written-All : (fields : List Field) (cs : List Cond) → written fields (cond.All cs) ≡ All (members_of (map (written fields) cs))
written-All fields cs = ap (written fields) (sym (rolls-All cs)) ∙ fold-roll-Cond Written (written_step fields) (Cond-F.All cs)

pub written-Any : (fields : List Field) (cs : List Cond) → written fields (cond.Any cs) ≡ Any (members_of (map (written fields) cs))
written-Any fields cs = ap (written fields) (sym (rolls-Any cs)) ∙ fold-roll-Cond Written (written_step fields) (Cond-F.Any cs)

normals_are : (negated : Bool) (ws : List Written) → normals negated (members_of ws) ≡ map (normal negated) ws
normals_are negated [] = refl
normals_are negated (w ∷ ws) = ap (λ rest. normal negated w ∷ rest) (normals_are negated ws)

module _ (negated : Bool) (fields : List Field) where
  all_members : (cs : List Cond) → all_of (normals negated (members_of (map (written fields) cs))) ≡ wide.All (all_gathered joint.All negated fields cs)
  all_members cs = ap all_of (normals_are negated (map (written fields) cs))
      ∙ ap wide.All (flat_map-map conjoined (normal negated) (map (written fields) cs) ∙ flat_map-map (λ w. conjoined (normal negated w)) (written fields) cs)

  any_members : (cs : List Cond) → any_of (normals negated (members_of (map (written fields) cs))) ≡ wide.Any (all_gathered joint.Any negated fields cs)
  any_members cs = ap any_of (normals_are negated (map (written fields) cs))
      ∙ ap wide.Any (flat_map-map disjoined (normal negated) (map (written fields) cs) ∙ flat_map-map (λ w. disjoined (normal negated w)) (written fields) cs)

module _ (fields : List Field) (cs : List Cond) where
  normal-All : (negated : Bool) → normal negated (All (members_of (map (written fields) cs))) ≡ join (other_if negated joint.All) (all_gathered (other_if negated joint.All) negated fields cs)
  normal-All true = any_members true fields cs
  normal-All false = all_members false fields cs

  normal-Any : (negated : Bool) → normal negated (Any (members_of (map (written fields) cs))) ≡ join (other_if negated joint.Any) (all_gathered (other_if negated joint.Any) negated fields cs)
  normal-Any true = all_members true fields cs
  normal-Any false = any_members false fields cs

module _ (among own : Joint) (negated : Bool) (fields : List Field) (c : Cond) (inner cs : List Cond) where
  pub gathered-All : c ≡ cond.All inner → cs ≡ inner → own ≡ other_if negated joint.All
      → parts among (join own (all_gathered own negated fields cs)) ≡ gathered among negated fields c
  gathered-All is same joined =
      ap (λ o. parts among (join o (all_gathered o negated fields cs))) joined
      ∙ ap (λ ds. parts among (join (other_if negated joint.All) (all_gathered (other_if negated joint.All) negated fields ds))) same
      ∙ ap (parts among) (sym (normal-All fields inner negated) ∙ ap (normal negated) (sym (written-All fields inner)))
      ∙ ap (gathered among negated fields) (sym is)

  pub gathered-Any : c ≡ cond.Any inner → cs ≡ inner → own ≡ other_if negated joint.Any
      → parts among (join own (all_gathered own negated fields cs)) ≡ gathered among negated fields c
  gathered-Any is same joined =
      ap (λ o. parts among (join o (all_gathered o negated fields cs))) joined
      ∙ ap (λ ds. parts among (join (other_if negated joint.Any) (all_gathered (other_if negated joint.Any) negated fields ds))) same
      ∙ ap (parts among) (sym (normal-Any fields inner negated) ∙ ap (normal negated) (sym (written-Any fields inner)))
      ∙ ap (gathered among negated fields) (sym is)
