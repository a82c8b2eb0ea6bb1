use Rattle.std.proofs.Common.{◌≡◌, ◌+◌, ◌≤◌, sym, ap, ◌∙◌, arith, length, take, drop}
use Rattle.std.proofs.Math.Nat.{add-sub_cancel_left}
use Rattle.format.specs.Bytes.{Bytes, byte_at}
use Rattle.volume.specs.Lists.{same}
use Rattle.record_places.specs.Place.{by_place}
use Rattle.record_places.specs.Laws.{size_inode}
use Rattle.path_walk.specs.Laws.{name_at, entry_elsewhere, entry_here}
use Rattle.path_walk.proofs.is_entry.Goals as goal

pub returns-then-link_at-directory : goal.returns-then-link_at-directory
returns-then-link_at-directory c =
    sym (entry_elsewhere (by_place c.args.image.now) c.args.directory c.args.name.now c.args.p (λ e. c.if-link_at-directory.true (c.link_at.ensures ∙ e)))

pub bounds-image-at : goal.bounds-image-at
bounds-image-at c =
    let lies : c.args.p + (20 + byte_at c.args.image.now (c.args.p + 17)) ≤ length c.args.image.now
    = rw (size_inode c.args.image.now c.args.p c.requires.p_value) at c.requires.lies in
    omega (arith, lies)

pub slice_bounds-equal-end : goal.slice_bounds-equal-end
slice_bounds-equal-end c =
    let lies : c.args.p + (20 + byte_at c.args.image.now (c.args.p + 17)) ≤ length c.args.image.now
    = rw (size_inode c.args.image.now c.args.p c.requires.p_value) at c.requires.lies in
    omega (arith, lies)

pub returns : goal.returns
returns c =
    let image = c.args.image.now in
    let told : c.equal.result ≡ same (take (byte_at image (c.args.p + 17)) (drop (c.args.p + 20) image)) c.args.name.now
    = rw (add-sub_cancel_left, c.from.ensures) at c.equal.ensures in
    told
    ∙ ap (λ (n : Bytes). same n c.args.name.now) (sym (name_at image c.args.p c.requires.p_value))
    ∙ sym (entry_here (by_place image) c.args.directory c.args.name.now c.args.p (sym c.link_at.ensures ∙ c.if-link_at-directory.false))
