use Rattle.std.proofs.Common.{◌≡◌, ◌≤◌, ◌∙◌, sym, length, arith}
use Rattle.area_pass.specs.Bridge.{placed_volume}
use Rattle.mount_state.specs.State.{spans_in}
use Rattle.mount_state.specs.Bridge.{places_lent, names_lent}
use Rattle.write_sizes.specs.Cut.{pieces, most_pieces, shortest_of, pieces_count, few_pieces}
use Rattle.call_append.specs.Written.{size_for, shortest_bound}
use Rattle.call_append.specs.Outcome.{out_broken, out_full, out_written}
use Rattle.call_append.proofs.append_to.Goals as goal

pub returns-in_default : goal.returns-in_default
returns-in_default c =
    let b = c.block_rows.ensures in
    let last = rw (b.image, b.ids, b.spots) at c.in_default.ensures in
    λ ds h p d. out_broken c.requires.safe h c.args.file c.args.text.now d (last (placed_volume c.args.image.now ds) h.blocks)

pub returns-then-m-count-gt-MOST_BLOCKS : goal.returns-then-m-count-gt-MOST_BLOCKS
returns-then-m-count-gt-MOST_BLOCKS c =
    let b = c.block_rows.ensures in
    let last = rw (b.image, b.ids, b.spots) at c.in-Some.ensures in
    let count : c.piece_count-count.result ≡ length (pieces (size_for c.args.m c.args.tables.now) c.args.text.now)
    = rw (← c.piece_size-size.ensures.is) (c.piece_count-count.ensures ∙ sym (pieces_count c.piece_size-size.result c.piece_size-size.ensures.within.0 c.args.text.now)) in
    λ ds h q d.
    out_full c.requires.safe h c.args.file c.args.text.now d c.in-Some.last (last (placed_volume c.args.image.now ds) h.blocks)
    c.piece_count-count.result count (omega (arith, c.if-m-count-gt-MOST_BLOCKS.true))

pub overflow_add-m : goal.overflow_add-m
overflow_add-m c =
    let count : c.piece_count-count.result ≡ length (pieces (size_for c.args.m c.args.tables.now) c.args.text.now)
    = rw (← c.piece_size-size.ensures.is) (c.piece_count-count.ensures ∙ sym (pieces_count c.piece_size-size.result c.piece_size-size.ensures.within.0 c.args.text.now)) in
    let few : c.piece_count-count.result ≤ most_pieces
    = rw count (few_pieces (shortest_of (spans_in c.args.m c.args.tables.now)) c.args.text.now (shortest_bound c.requires.safe) c.requires.text_len_bound) in
    omega (arith, few, c.requires.safe.blocks_few)

pub write_count-requires-clause-all_lie : goal.write_count-requires-clause-all_lie
write_count-requires-clause-all_lie c = (places_lent c.requires.safe_places).0

pub write_count-requires-clause-records_len_bound : goal.write_count-requires-clause-records_len_bound
write_count-requires-clause-records_len_bound c = (places_lent c.requires.safe_places).1

pub write_count-requires-clause-cut : goal.write_count-requires-clause-cut
write_count-requires-clause-cut c =
    let count : c.piece_count-count.result ≡ length (pieces (size_for c.args.m c.args.tables.now) c.args.text.now)
    = rw (← c.piece_size-size.ensures.is) (c.piece_count-count.ensures ∙ sym (pieces_count c.piece_size-size.result c.piece_size-size.ensures.within.0 c.args.text.now)) in
    let few : c.piece_count-count.result ≤ most_pieces
    = rw count (few_pieces (shortest_of (spans_in c.args.m c.args.tables.now)) c.args.text.now (shortest_bound c.requires.safe) c.requires.text_len_bound) in
    record {
      some_room = c.piece_size-size.ensures.within.0;
      small = c.piece_size-size.ensures.within.1;
      count = rw c.piece_size-size.ensures.is count;
      few = few;
      counted = omega (arith, c.if-m-count-gt-MOST_BLOCKS.false);
    }

pub returns : goal.returns
returns c =
    let b = c.block_rows.ensures in
    let last = rw (b.image, b.ids, b.spots) at c.in-Some.ensures in
    let count : c.piece_count-count.result ≡ length (pieces (size_for c.args.m c.args.tables.now) c.args.text.now)
    = rw (← c.piece_size-size.ensures.is) (c.piece_count-count.ensures ∙ sym (pieces_count c.piece_size-size.result c.piece_size-size.ensures.within.0 c.args.text.now)) in
    λ ds h q d.
    out_written c.requires.safe h c.args.file c.args.text.now d c.in-Some.last (last (placed_volume c.args.image.now ds) h.blocks)
    c.piece_count-count.result count (omega (arith, c.if-m-count-gt-MOST_BLOCKS.false)) _ _ _
    (names_lent c.args.image.now ds c.args.m c.args.places.now q)
    (rw (← c.piece_size-size.ensures.is) (c.write_count.ensures ds h))
