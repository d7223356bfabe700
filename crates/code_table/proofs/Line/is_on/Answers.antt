use mathlib.Core.Path.{sym, ap, ◌∙◌}
use borrow.Author.Rules.{rules}
use borrow.Author.Tests.{eqb-true, eqb-false}
use mir.Syntax.{w32}
use mir.Val.{SFits, to_z, of_z}
use mir.ValLaws.{to_z-of_z}
use Rattle.code_table.proofs.Line.is_on.Goals as goal

pub returns : goal.returns
returns c =
    let f : SFits w32 c.args.self.level = search rules in
    let e : SFits w32 c.args.self.east = search rules in
    let n : SFits w32 c.args.self.north = search rules in
    let a = rw (to_z-of_z w32 c.args.self.east e, to_z-of_z w32 c.args.self.north n) at c.across.ensures in
    record {
      yes' = λ e. sym (to_z-of_z w32 c.args.self.level f) ∙ ap (to_z w32) (eqb-true _ _ e) ∙ to_z-of_z w32 c.across.result (record { sfits = c.across.type_inv }) ∙ a;
      no' = λ e h. eqb-false _ _ e (ap (of_z w32) (h ∙ sym a));
    }
