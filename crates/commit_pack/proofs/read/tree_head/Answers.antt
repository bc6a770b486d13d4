use Rattle.std.proofs.Common.{◌≡◌, rules, Some, Result, Err, sym, ◌∙◌, ap, subst}
use Rattle.gb_text.specs.declared.id.Name.{Name}
use Rattle.git_object.specs.declared.tree.Tree.{Tree}
use Rattle.git_object.specs.Views.{tree_seen}
use Rattle.object_store.specs.Held.{Objects, objects_after, text_at}
use Rattle.object_store.specs.Typed.{AnswersAs, as_tree, tree_at}
use Rattle.object_store.specs.declared.fault.KindFault.{KindFault}
use Rattle.object_store.specs.declared.fault.KindFault.TheVariants as kind
use Rattle.op_pack.specs.Heads.{HeadFault}
use Rattle.op_pack.specs.declared.fault.PackFault.{PackFault}
use Rattle.op_pack.specs.declared.fault.PackFault.TheVariants as pack
use Rattle.op_pack.specs.declared.head.TreeHead.{TreeHead}
use Rattle.commit_pack.specs.Answers.{HeadAnswers, HeadFails, Refused}
use Rattle.commit_pack.specs.Faults.{pack_fault, tree_fault}
use Rattle.commit_pack.specs.declared.fault.CommitPackFault.{CommitPackFault}
use Rattle.commit_pack.proofs.read.tree_head.Goals as goal

head_refused : (objects : Objects) (name : Name) (tree : Tree) (f : PackFault) → tree_at objects name ≡ Some tree → HeadFault tree f → HeadAnswers objects name (Err (pack_fault f))
head_refused objects name tree pack.Memory held h = absurd h
head_refused objects name tree (pack.UnknownVersion n) held h = record { tree = tree; held = held; fails = h }
head_refused objects name tree pack.NoOps held h = record { tree = tree; held = held; fails = h }
head_refused objects name tree pack.BadClock held h = record { tree = tree; held = held; fails = h }
head_refused objects name tree pack.BadPack held h = absurd h
head_refused objects name tree (pack.BadOperation i f) held h = absurd h
head_refused objects name tree (pack.TooLarge n) held h = absurd h

tree_refused : (objects : Objects) (name : Name) (f : KindFault) → AnswersAs as_tree objects name (Err f) → Refused (HeadFails objects name) (tree_fault f)
tree_refused objects name kind.Memory h = tt
tree_refused objects name kind.Disk h = tt
tree_refused objects name (kind.Missing n) h = h
tree_refused objects name (kind.Damaged n) h = h
tree_refused objects name (kind.Large n) h = h
tree_refused objects name (kind.OtherKind n) h = h.1

pub returns-in_err-read_head-in-Ok-tree_in-clause-answers : goal.returns-in_err-read_head-in-Ok-tree_in-clause-answers
returns-in_err-read_head-in-Ok-tree_in-clause-answers g c = λ tells.
    let objects = objects_after (g.S.Store.history c.args.disk.now) c.args.folder.now in
    let at : text_at objects c.args.tree.now ≡ Some c.as_slice.result.now = c.in-Ok.ensures.answers tells ∙ ap Some (sym c.as_slice.ensures) in
    let f = c.in_err-read_head-in-Ok-tree_in.field-0.0 in
    let is : c.from_residual.result ≡ Err (pack_fault f) = search rules in
    subst (λ (r : Result TreeHead CommitPackFault). HeadAnswers objects c.args.tree.now r) (sym is)
    (head_refused objects c.args.tree.now (tree_seen c.in-Ok-tree_in.tree) f (c.in-Ok-tree_in.ensures.answers objects at) c.in_err-read_head-in-Ok-tree_in.ensures.answer)

pub returns-in-Ok-tree_in-clause-answers : goal.returns-in-Ok-tree_in-clause-answers
returns-in-Ok-tree_in-clause-answers g c = λ tells.
    let objects = objects_after (g.S.Store.history c.args.disk.now) c.args.folder.now in
    let at : text_at objects c.args.tree.now ≡ Some c.as_slice.result.now = c.in-Ok.ensures.answers tells ∙ ap Some (sym c.as_slice.ensures) in
    record { tree = tree_seen c.in-Ok-tree_in.tree; held = c.in-Ok-tree_in.ensures.answers objects at; says = c.in_ok-read_head-in-Ok-tree_in.ensures.answer }

pub returns-clause-answers : goal.returns-clause-answers
returns-clause-answers g c = λ tells.
    let objects = objects_after (g.S.Store.history c.args.disk.now) c.args.folder.now in
    let at : text_at objects c.args.tree.now ≡ Some c.as_slice.result.now = c.in-Ok.ensures.answers tells ∙ ap Some (sym c.as_slice.ensures) in
    subst (λ (f : CommitPackFault). Refused (HeadFails objects c.args.tree.now) f) (sym c.of_tree-in-Err-tree_in.ensures)
    (tree_refused objects c.args.tree.now c.in-Err-tree_in.fault (c.in-Err-tree_in.ensures.answers objects at))
