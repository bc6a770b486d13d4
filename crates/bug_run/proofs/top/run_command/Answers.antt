use Rattle.std.proofs.Common.{◌≡◌, ℕ, true, List, sym, subst}
use Rattle.gb_store.specs.Files.{files_of}
use Rattle.repo_view.specs.Log.{ReadsLog}
use Rattle.repo_view.specs.Shown.{ReadsShow}
use Rattle.words.specs.declared.words.Command.{Command}
use Rattle.bug_run.specs.Reads.{ReadsCommand}
use Rattle.bug_run.proofs.top.run_command.Goals as goal

pub returns-in_ok-show-in-Show-clause-reads : goal.returns-in_ok-show-in-Show-clause-reads
returns-in_ok-show-in-Show-clause-reads g c = λ tells.
    let files = files_of (g.S.Store.history c.args.disk.now) in
    let folder = c.args.env.now.folder in
    let before = g.S.Store.object_reads c.args.disk.now in
    let after = g.S.Store.object_reads c.show.new.disk in
    subst (λ (command : Command). ReadsCommand files folder command (true ≡ true) before after) (sym c.in-Show.is)
    (subst (λ (word : List ℕ). ReadsShow files folder word before after) c.as_str.ensures (c.show.ensures.reads tells))

pub returns-in_ok-log-in-Log-clause-reads : goal.returns-in_ok-log-in-Log-clause-reads
returns-in_ok-log-in-Log-clause-reads g c = λ tells.
    let files = files_of (g.S.Store.history c.args.disk.now) in
    let folder = c.args.env.now.folder in
    let before = g.S.Store.object_reads c.args.disk.now in
    let after = g.S.Store.object_reads c.log.new.disk in
    subst (λ (command : Command). ReadsCommand files folder command (true ≡ true) before after) (sym c.in-Log.is)
    (subst (λ (word : List ℕ). ReadsLog files folder word before after) c.as_str-in-Log.ensures (c.log.ensures.reads tells))
