use Rattle.std.proofs.Common.{refl}
use Rattle.convert.proofs.Filling.{cleared}
use Rattle.convert.proofs.Outcomes.{refused_one, done_all, source_small, source_low, source_whole, result_fits, taken_fits}
use Rattle.convert.proofs.convert.Goals as goal

pub returns-then-buffer-ne8192 : goal.returns-then-buffer-ne8192
returns-then-buffer-ne8192 c = search refused_one

pub write_file-size-requires : goal.write_file-size-requires
write_file-size-requires c =
    let e = c.in_ok-first_failing.ensures in
    (source_small _ _ _ _ e refl, source_low _ _ _ _ e refl, source_whole _ _ _ _ e refl, result_fits _ _ _ _ e refl _ c.if-buffer-ne8192.false)

pub returns : goal.returns
returns c =
    let k = c.write_file-size.ensures in
    let e = c.in_ok-first_failing.ensures in
    let z = cleared _ _ _ (taken_fits _ _ _ k.0 k.1) (c.fill.ensures.after (λ y h. h)) in
    done_all _ _ _ _ c.if-buffer-ne8192.false _ e _ _ _ refl c.write_file-size.auto.out k.0 k.1 z
