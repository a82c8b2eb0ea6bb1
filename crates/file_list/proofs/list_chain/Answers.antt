use Rattle.std.proofs.Common.{ℕ, ◌*◌, ◌≤◌, Bool, true, false, eqb, arith, refl, length}
use Rattle.std.specs.Bool.{then_some}
use Rattle.std.specs.Option.{IfSome}
use Rattle.format.specs.Ids.{NONE}
use Rattle.file_blocks.specs.Walk.{own_lies, own_block}
use Rattle.file_list.specs.Listing.{listing_begins, listing_on, listing_broken, listing_ended}
use Rattle.file_list.proofs.list_chain.Goals as goal

pub loop-k-init : goal.loop-k-init
loop-k-init c = listing_begins refl c.requires.sizes_len.0

pub returns-in_err-p-clause-told : goal.returns-in_err-p-clause-told
returns-in_err-p-clause-told c = rw c.from_residual.ensures (listing_broken c.loop-k.invariant c.loop-k-test.true c.in_err-p.ensures)

pub data_length-n-requires-clause-lies_2 : goal.data_length-n-requires-clause-lies_2
data_length-n-requires-clause-lies_2 c = own_lies c.requires.block_table c.args.file c.loop-k.id c.in_ok-p.p c.in_ok-p.ensures

pub data_length-n-requires-clause-p_value : goal.data_length-n-requires-clause-p_value
data_length-n-requires-clause-p_value c = own_block c.requires.block_table c.args.file c.loop-k.id c.in_ok-p.p c.in_ok-p.ensures

pub overflow_add-size : goal.overflow_add-size
overflow_add-size c = omega (arith, c.data_length-n.ensures.small, c.loop-k.invariant.few, c.requires.sizes_len.1)

pub previous_at-id-requires : goal.previous_at-id-requires
previous_at-id-requires c = own_lies c.requires.block_table c.args.file c.loop-k.id c.in_ok-p.p c.in_ok-p.ensures

pub loop-k-preserved : goal.loop-k-preserved
loop-k-preserved c =
    let t = c.requires.block_table in
    let is = c.in_ok-p.ensures in
    listing_on c.loop-k.invariant c.loop-k-test.true c.in_ok-p.p is (own_lies t c.args.file c.loop-k.id c.in_ok-p.p is)
    (own_block t c.args.file c.loop-k.id c.in_ok-p.p is) c.data_length-n.result c.previous_at-id.result
    c.data_length-n.ensures.told c.data_length-n.ensures.small c.previous_at-id.ensures

some_small : (b : Bool) (size most : ℕ) → size ≤ most → IfSome (then_some b size) (λ n. n ≤ most)
some_small true size most h = h
some_small false size most h = tt

pub returns-clause-small : goal.returns-clause-small
returns-clause-small c = rw c.then_some.ensures (some_small (eqb c.loop-k.id NONE) c.loop-k.size (length c.args.blocks.now * 65535) (omega (arith, c.loop-k.invariant.few)))

pub returns-clause-told : goal.returns-clause-told
returns-clause-told c = rw c.then_some.ensures (listing_ended c.loop-k.invariant c.loop-k-test.false)
