-- The command of positional arguments by which `clap` reads.
use Rattle.std.specs.Prelude.{codes, Some, true}
use Rattle.clap.specs.Walk.{Rule}
use Rattle.clap.specs.Simple.{App, new_app, new_rule, on_top, with_rule}
use Rattle.clap.specs.declared.builder.action.ArgAction.TheVariants.{Append}

-- its one argument, which may be given any number of times
abbrev pub argument_rule : Rule
argument_rule = record (new_rule (codes "argument")) { action = Some Append }

-- the command: no name of the program comes first, and there are no flags
abbrev pub app : App
app = with_rule (on_top (λ s. record s { disable_version_flag = true })
    (on_top (λ s. record s { disable_help_flag = true })
    (on_top (λ s. record s { no_binary_name = true }) (new_app (codes "gitbug"))))) argument_rule
