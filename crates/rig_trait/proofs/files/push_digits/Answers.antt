use Rattle.std.proofs.Common.{◌≡◌, append_assoc, arith, get_or, refl}
use Rattle.std.proofs.lemmas.List.{map_more}
use Rattle.rig_trait.specs.Files.{digit_at, places}
use Rattle.rig_trait.proofs.files.push_digits.Goals as goal

pub loop-place-preserved : goal.loop-place-preserved
loop-place-preserved c =
    let place = get_or places c.loop-place.place-index 0 in
    let digit_is : c.unwrap.result ≡ digit_at c.args.dimm place = (rw c.unwrap.ensures at c.from_digit.ensures.value).1 in
    record {
      bytes = rw (c.push.ensures.bytes, c.loop-place.invariant.bytes, digit_is, map_more (digit_at c.args.dimm) places c.loop-place.place-index 0 c.loop-place-test.true, append_assoc) refl;
      len = omega arith;
      capacity = omega arith;
    }
