-- What is asked of a tree on the way, and what a step of its making gives.
use Rattle.std.specs.Prelude.{◌≡◌, ℕ, ◌+◌, ◌-◌, ◌<◌, ◌≤◌, Result, Err, OnOk, length}
use Rattle.agg_laws.specs.declared.tree_shape.TreeShape.{TreeShape}
use Rattle.star_tree.specs.Flat.{count}
use Rattle.star_table.specs.Shapes.{IsShape}
use Rattle.star_file.specs.Rules.{most_bytes}
use Rattle.star_builder.specs.declared.fault.TreeFault.{TreeFault}
use Rattle.star_builder.specs.declared.fault.TreeFault.TheVariants as fault
use Rattle.star_builder.specs.declared.growing.Growing.{Growing}
use Rattle.star_builder.specs.Building.{Written, bytes_of, children_in, NodeStands, Standing}

-- its nodes and documents, written flat
abbrev pub written : Growing → Written
written tree = (tree.nodes.items, tree.docs.docs)

-- a tree of a shape, whose node with this number is of this level, and not closed yet
pub record IsOpenAt (shape : TreeShape) (level at : ℕ) (tree : Growing) : Type 0 where
  pub bounded : IsShape shape
  pub levels : level ≤ shape.dims
  pub dims : tree.docs.dims ≡ shape.dims
  pub stands : NodeStands shape level at (written tree)
  pub small : bytes_of shape (written tree) ≤ most_bytes

-- a tree of a shape, whose nodes from a number on are the children, not visited yet, of a node of
-- this level with this range
pub record AreOpenFrom (shape : TreeShape) (level start end first children : ℕ) (tree : Growing)
    : Type 0 where
  pub bounded : IsShape shape
  pub levels : level < shape.dims
  pub dims : tree.docs.dims ≡ shape.dims
  pub order : start ≤ end
  pub inside : end ≤ length tree.docs.docs
  pub within : first + children ≤ length tree.nodes.items
  pub all : children ≡ count (children_in shape level start end (written tree))
  pub stand : Standing shape (shape.dims - (level + 1)) (level + 1) first
      (children_in shape level start end (written tree)) (written tree)
  pub small : bytes_of shape (written tree) ≤ most_bytes

-- a tree becomes what a step makes of it, unless that takes more bytes than a tree may
pub record Becomes (shape : TreeShape) (next : Written) (old new : Growing)
    (result : Result (Unit {0}) TreeFault) : Type 0 where
  pub ok : OnOk result (written new ≡ next)
  pub fits : OnOk result (bytes_of shape (written new) ≤ most_bytes)
  pub too_large : result ≡ Err fault.TooLarge → most_bytes < bytes_of shape next
  pub dims : new.docs.dims ≡ old.docs.dims
  pub kinds : new.docs.kinds ≡ old.docs.kinds
