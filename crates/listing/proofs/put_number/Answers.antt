use mathlib.Core.Path.{◌∙◌}
use native.Mathlib.Omega.{arith}
use Rattle.listing.proofs.Putting.{put_loose, put_as}
use Rattle.listing.proofs.Decimals.{few_digits, digits_decimal}
use Rattle.listing.proofs.put_number.Goals as goal

pub put_text-requires : goal.put_text-requires
put_text-requires c =
    omega (
      arith,
      few_digits _ _ c.ranges.n.fits c.decimal-k.ensures.len,
      c.decimal-k.ensures.in_bounds.1,
    )

pub returns : goal.returns
returns c =
    put_loose
    (omega (
      arith,
      few_digits _ _ c.ranges.n.fits c.decimal-k.ensures.len,
      c.decimal-k.ensures.in_bounds.1,
    ))
    (put_as
    (c.decimal-k.ensures.digits ∙ digits_decimal _ _ c.decimal-k.ensures.len)
    c.put_text.ensures)
