use Rattle.std.proofs.Common.{◌≡◌, ◌<◌, ◌+◌, length, set, sym, ap, subst, arith}
use Rattle.std.proofs.lemmas.List.{length-map}
use Rattle.std.specs.Vec.{vec_capacity}
use Rattle.state_pool.specs.declared.pool.Owner.{Owner}
use Rattle.state_pool.specs.Pool.{Pool, Place, Takes}
use Rattle.state_pool.specs.Kept.{TakesCells, HasRoom, Widens, pool_in, most_of}
use Rattle.state_pool.proofs.OwnerLemmas.{own_kept, room_for, takes, taken_kept, same_most}
use Rattle.state_pool.proofs.WideSteps.{wider_kept, takes_wider, roomier}
use Rattle.state_pool.proofs.pool.SlotPool.take.Goals as goal

pub take_number-number-requires-clause-room : goal.take_number-number-requires-clause-room
take_number-number-requires-clause-room c none =
    let s = c.self.inside in
    let own = c.index_mut-own.result.now in
    let w = c.widen-self-inside.result in
    let cells = c.widen-self-inside.new.cells.items in
    let lt : c.args.owner < length s.owners.items = omega (arith, c.requires, ap (λ (p : Pool). length p.quotas) c.self.view_is, length-map s.owners.items (λ (o : Owner). o.quota)) in
    let k = own_kept s.owners.items s.holders.items s.width s.stride s.cells.items s.free.items c.self.invariant.0 c.args.owner own lt c.index_mut-own.ensures.value in
    let less : own.held < own.quota = omega (arith, k.within, c.if-own.false) in
    let count : c.len-count.result ≡ length s.holders.items = omega (arith, c.len-count.ensures, s.holders.ok.0) in
    let wide = subst (λ n. Widens n s.stride (length own.kinds) w s.cells.items cells) count (subst (λ n. Widens c.len-count.result s.stride n w s.cells.items cells) c.len.ensures c.widen-self-inside.ensures.widens) in
    let kept = wider_kept s.owners.items s.holders.items s.width s.stride s.cells.items s.free.items c.self.invariant.0 (length own.kinds) w cells k.fits wide in
    room_for s.owners.items s.holders.items s.width w cells s.free.items kept c.args.owner own lt c.index_mut-own.ensures.value (vec_capacity s.holders) (vec_capacity c.widen-self-inside.new.cells) (vec_capacity s.free)
    (roomier (most_of s.owners.items) s.width (vec_capacity s.holders) (vec_capacity s.cells) (vec_capacity s.free) (vec_capacity c.widen-self-inside.new.cells) c.widen-self-inside.ensures.capacity c.self.invariant.1) less none

pub invariant_of-self-2 : goal.invariant_of-self-2
invariant_of-self-2 c =
    let s = c.self.inside in
    let own = c.index_mut-own.result.now in
    let w = c.widen-self-inside.result in
    let cells = c.widen-self-inside.new.cells.items in
    let lt : c.args.owner < length s.owners.items = omega (arith, c.requires, ap (λ (p : Pool). length p.quotas) c.self.view_is, length-map s.owners.items (λ (o : Owner). o.quota)) in
    let k = own_kept s.owners.items s.holders.items s.width s.stride s.cells.items s.free.items c.self.invariant.0 c.args.owner own lt c.index_mut-own.ensures.value in
    let less : own.held < own.quota = omega (arith, k.within, c.if-own.false) in
    let count : c.len-count.result ≡ length s.holders.items = omega (arith, c.len-count.ensures, s.holders.ok.0) in
    let wide = subst (λ n. Widens n s.stride (length own.kinds) w s.cells.items cells) count (subst (λ n. Widens c.len-count.result s.stride n w s.cells.items cells) c.len.ensures c.widen-self-inside.ensures.widens) in
    let kept = wider_kept s.owners.items s.holders.items s.width s.stride s.cells.items s.free.items c.self.invariant.0 (length own.kinds) w cells k.fits wide in
    let cells_taken = subst (λ ks. TakesCells c.args.owner w ks c.take_number-number.result s.holders.items c.take_number-number.new.holders.items cells c.take_number-number.new.cells.items) c.as_slice.ensures c.take_number-number.ensures.taken in (
      taken_kept s.owners.items s.holders.items s.width w cells s.free.items kept c.args.owner own lt c.index_mut-own.ensures.value
          c.take_number-number.result c.take_number-number.new.holders.items c.take_number-number.new.cells.items c.take_number-number.new.free.items cells_taken less wide.enough c.take_number-number.ensures.numbers,
      c.take_number-number.ensures.room _ _ (subst (λ most. HasRoom most s.width (vec_capacity s.holders) (vec_capacity c.widen-self-inside.new.cells) (vec_capacity s.free))
          (sym (same_most s.owners.items s.holders.items s.width w cells s.free.items kept c.args.owner own lt c.index_mut-own.ensures.value (own.held + 1)))
          (roomier (most_of s.owners.items) s.width (vec_capacity s.holders) (vec_capacity s.cells) (vec_capacity s.free) (vec_capacity c.widen-self-inside.new.cells) c.widen-self-inside.ensures.capacity c.self.invariant.1)),
    )

pub returns-clause-taken : goal.returns-clause-taken
returns-clause-taken c =
    let s = c.self.inside in
    let own = c.index_mut-own.result.now in
    let w = c.widen-self-inside.result in
    let cells = c.widen-self-inside.new.cells.items in
    let lt : c.args.owner < length s.owners.items = omega (arith, c.requires, ap (λ (p : Pool). length p.quotas) c.self.view_is, length-map s.owners.items (λ (o : Owner). o.quota)) in
    let k = own_kept s.owners.items s.holders.items s.width s.stride s.cells.items s.free.items c.self.invariant.0 c.args.owner own lt c.index_mut-own.ensures.value in
    let count : c.len-count.result ≡ length s.holders.items = omega (arith, c.len-count.ensures, s.holders.ok.0) in
    let wide = subst (λ n. Widens n s.stride (length own.kinds) w s.cells.items cells) count (subst (λ n. Widens c.len-count.result s.stride n w s.cells.items cells) c.len.ensures c.widen-self-inside.ensures.widens) in
    let kept = wider_kept s.owners.items s.holders.items s.width s.stride s.cells.items s.free.items c.self.invariant.0 (length own.kinds) w cells k.fits wide in
    let cells_taken = subst (λ ks. TakesCells c.args.owner w ks c.take_number-number.result s.holders.items c.take_number-number.new.holders.items cells c.take_number-number.new.cells.items) c.as_slice.ensures c.take_number-number.ensures.taken in
    let slot : Place = record { owner = c.args.owner; number = c.take_number-number.result } in
    let new = pool_in (set s.owners.items c.args.owner (record { quota = own.quota; held = own.held + 1; kinds = own.kinds })) c.take_number-number.new.holders.items s.width w c.take_number-number.new.cells.items in
    subst (λ p. Takes c.args.owner slot p new) c.self.view_is
    (takes_wider s.owners.items s.holders.items s.width s.stride s.cells.items s.free.items c.self.invariant.0 (length own.kinds) w cells k.fits wide c.args.owner slot new
    (takes s.owners.items s.holders.items s.width w cells s.free.items kept c.args.owner own lt c.index_mut-own.ensures.value
    c.take_number-number.result c.take_number-number.new.holders.items c.take_number-number.new.cells.items c.take_number-number.new.free.items cells_taken))
