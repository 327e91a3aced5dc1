use Rattle.std.proofs.Common.{◌≡◌, ◌++◌, Some, sym, ap, subst, ◌∙◌}
use Rattle.std.specs.Option.{option_map}
use Rattle.nd_top.specs.declared.words.Request.TheVariants.{Line, Input}
use Rattle.nd_top.specs.Ends.{Ends}
use Rattle.nd_top.specs.Words.{DoLine, RunInput, asked, asked_as, line_of}
use Rattle.nd_top.proofs.top.nd_top.Goals as goal

pub returns-in-Some-Line-clause-ends : goal.returns-in-Some-Line-clause-ends
returns-in-Some-Line-clause-ends g c =
    let front = c.in-Some-Line.front in
    let back = c.in-Some-Line.back in
    let request : c.request_of.result ≡ Some (Line front back) = cc in
    let is : asked c.args.words.now ≡ Some (DoLine (line_of (front.now ++ back.now))) = sym c.request_of.ensures ∙ ap (option_map asked_as) request in
    subst (λ a. Ends g.R.Shown g.N.Source g.I.Source c.args.seed a c.args.rig.now c.do_words.new.rig c.args.nfit.now c.do_words.new.nfit c.args.input.now c.args.input.now c.do_words.result) (sym is) c.do_words.ensures.ends

pub returns-in-Some-Input-clause-ends : goal.returns-in-Some-Input-clause-ends
returns-in-Some-Input-clause-ends g c =
    let request : c.request_of.result ≡ Some Input = cc in
    let is : asked c.args.words.now ≡ Some RunInput = sym c.request_of.ensures ∙ ap (option_map asked_as) request in
    subst (λ a. Ends g.R.Shown g.N.Source g.I.Source c.args.seed a c.args.rig.now c.run_input.new.rig c.args.nfit.now c.run_input.new.nfit c.args.input.now c.run_input.new.input c.run_input.result) (sym is) c.run_input.ensures.ends
