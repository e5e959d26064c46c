-- `write_to`: each way through the code by its law.
use Rattle.std.proofs.Common.{◌≡◌, ◌+◌, ◌*◌, ◌-◌, length, get_or, ap, ◌∙◌, arith}
use borrow.Rule.Slice.PartMut.{put_mid}
use Rattle.laws.specs.Part.{put_part, part_back}
use Rattle.image_bytes.specs.Image.{bytes_of, length_bytes, imaged_none, imaged-more, imaged_all}
use Rattle.image_bytes.proofs.write_to.Goals as goal

pub loop-i-init : goal.loop-i-init
loop-i-init c = imaged_none _ _

pub loop-i-preserved : goal.loop-i-preserved
loop-i-preserved c =
    let at = c.loop-i in
    let a = c.args in
    let i = at.i in
    let bytes = bytes_of 8 (get_or a.table.now i 0) in
    let eight = length_bytes 8 (get_or a.table.now i 0) in
    let wrote = c.put_word in
    let back : put_mid (8 * i) (8 * i + 8 - 8 * i) at.page wrote.new.bytes ≡ put_part (8 * i) bytes at.page =
    ap (put_mid (8 * i) (8 * i + 8 - 8 * i) at.page) wrote.ensures
    ∙ part_back (8 * i) (8 * i + 8) at.page bytes (omega arith) (omega arith) in
    back ∙ ap (put_part (8 * i) bytes) at.invariant ∙ imaged-more i a.table.now a.page.now (omega arith) (omega arith)

pub returns : goal.returns
returns c =
    let all : c.loop-i.i ≡ length c.args.table.now = omega arith in
    c.loop-i.invariant ∙ rw all (imaged_all c.args.table.now c.args.page.now c.requires)
