use Rattle.std.proofs.Common.{◌≡◌, ◌∙◌, rules, ap, ap₂, true}
use Rattle.std.proofs.lemmas.Result.{IfOk-weaker}
use Rattle.clap.specs.Walk.{rule_of}
use Rattle.clap.specs.Simple.{app_of_fields, on_top, with_rule}
use Rattle.clap.specs.Words.{AddsArg}
use Rattle.words.specs.ClapCommand.{argument_rule}
use Rattle.words.proofs.arguments.command.Goals as goal

pub returns : goal.returns
returns c =
    let rule_is : rule_of c.action-argument.result ≡ argument_rule = search rules in
    let first = ap app_of_fields c.no_binary_name.ensures ∙ ap (on_top (λ s. record s { no_binary_name = true })) c.new-2.ensures.app in
    let second = ap app_of_fields c.disable_help_flag.ensures ∙ ap (on_top (λ s. record s { disable_help_flag = true })) first in
    let third = ap app_of_fields c.disable_version_flag.ensures ∙ ap (on_top (λ s. record s { disable_version_flag = true })) second in
    IfOk-weaker c.arg.result _ _ (λ r (h : AddsArg _ _ r). h.shape (search rules) ∙ ap₂ with_rule third rule_is) c.arg.ensures
