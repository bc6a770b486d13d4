use Rattle.std.proofs.Common.{◌≡◌, Bool, List, ℕ, subst}
use Rattle.std.specs.Prelude.{IfOk, is_some}
use Rattle.gb_store.specs.Files.{files_of}
use Rattle.repo_state.proofs.UserFileLemmas.{reads_none}
use Rattle.repo_state.proofs.user_file.has_user_file.Goals as goal

pub returns-clause-answers : goal.returns-clause-answers
returns-clause-answers g c = λ tells.
    subst (λ (path : List ℕ). IfOk c.has_file.result (λ (has : Bool). has ≡ is_some (files_of (g.S.Store.history c.args.disk.now) path))) c.in_ok-path.ensures (c.has_file.ensures.answers tells)

pub returns-clause-reads : goal.returns-clause-reads
returns-clause-reads g c = reads_none c.args.folder.now c.in_ok-path.path _ _ c.in_ok-path.ensures c.has_file.ensures.reads
