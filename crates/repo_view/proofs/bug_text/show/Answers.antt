use Rattle.std.proofs.Common.{◌≡◌, ◌∙◌, ℕ, List, Result, Err, refl, rules, sym, subst}
use Rattle.gb_store.specs.Files.{History, files_of}
use Rattle.identity.specs.declared.chain.Person.{Person}
use Rattle.bug_ops.specs.Kind.{bug_kind}
use Rattle.dag_entity.specs.Entities.{ops_in}
use Rattle.render.specs.Show.{show_text_of}
use Rattle.snapshot.specs.LastMention.{IsBugList, snapshot_of}
use Rattle.repo_state.specs.Answers.{HasBadPerson, Reads}
use Rattle.repo_state.specs.Bugs.{FindsBug, IsBug, ReadsBelow}
use Rattle.repo_state.specs.People.{ArePeople}
use Rattle.repo_state.specs.Stops.{find_of_read}
use Rattle.repo_state.specs.declared.stop.FindStop.{FindStop}
use Rattle.repo_view.specs.Shown.{ShowAnswers}
use Rattle.repo_view.proofs.ShowLemmas.{bug_shown, listed_still, no_people, show_reads}
use Rattle.repo_view.proofs.bug_text.show.Goals as goal

pub returns-in_err-people-clause-answers : goal.returns-in_err-people-clause-answers
returns-in_err-people-clause-answers g c = λ tells.
    let old = g.S.Store.history c.args.disk.now in
    let folder = c.args.folder.now in
    let bug = c.in_ok-bug.bug in
    let first = c.in_ok-bug.ensures.unwritten tells in
    let second = c.in_ok-identities.ensures.unwritten tells ∙ first in
    let finds : FindsBug (files_of old) folder c.args.word.now bug = c.in_ok-bug.ensures.answers tells in
    let third = c.in_ok-entity.ensures.unwritten tells ∙ second in
    let entity = c.in_ok-entity.entity in
    let refs = c.in_ok-identities.identities in
    let one = g.S.Store.history c.find_head.new.disk in
    let listed = listed_still one (g.S.Store.history c.identity_refs.new.disk) old folder refs c.as_slice.result.now first second c.as_slice.ensures (c.in_ok-identities.ensures.answers tells) in
    let later = listed_still one (g.S.Store.history c.bug_among.new.disk) old folder refs c.as_slice-2.result.now first third c.as_slice-2.ensures (c.in_ok-identities.ensures.answers tells) in
    let is_bug : IsBug (files_of old) folder bug entity = subst (λ (h : History). IsBug (files_of h) folder bug entity) second (c.in_ok-entity.ensures.answers tells listed) in
    let answer : Result (List ℕ) FindStop = Err (find_of_read c.in_err-people.field-0.0) in
    let is : c.from_residual-in_err-people.result ≡ answer = search rules in
    subst (ShowAnswers (files_of old) folder c.args.word.now) (sym is)
    (no_people (files_of old) folder c.args.word.now bug entity c.in_err-people.field-0.0 finds is_bug
    (subst (λ (h : History). Reads {T = List Person} (ArePeople (files_of h) folder) (HasBadPerson (files_of h) folder) (Err c.in_err-people.field-0.0)) third (c.in_err-people.ensures.answers tells later)))

pub returns-clause-answers : goal.returns-clause-answers
returns-clause-answers g c = λ tells.
    let old = g.S.Store.history c.args.disk.now in
    let folder = c.args.folder.now in
    let bug = c.in_ok-bug.bug in
    let first = c.in_ok-bug.ensures.unwritten tells in
    let second = c.in_ok-identities.ensures.unwritten tells ∙ first in
    let finds : FindsBug (files_of old) folder c.args.word.now bug = c.in_ok-bug.ensures.answers tells in
    let third = c.in_ok-entity.ensures.unwritten tells ∙ second in
    let entity = c.in_ok-entity.entity in
    let refs = c.in_ok-identities.identities in
    let one = g.S.Store.history c.find_head.new.disk in
    let listed = listed_still one (g.S.Store.history c.identity_refs.new.disk) old folder refs c.as_slice.result.now first second c.as_slice.ensures (c.in_ok-identities.ensures.answers tells) in
    let later = listed_still one (g.S.Store.history c.bug_among.new.disk) old folder refs c.as_slice-2.result.now first third c.as_slice-2.ensures (c.in_ok-identities.ensures.answers tells) in
    let is_bug : IsBug (files_of old) folder bug entity = subst (λ (h : History). IsBug (files_of h) folder bug entity) second (c.in_ok-entity.ensures.answers tells listed) in
    let shown = c.as_slice-3.result.now in
    let people : ArePeople (files_of (g.S.Store.history c.bug_among.new.disk)) folder shown = subst (ArePeople (files_of (g.S.Store.history c.bug_among.new.disk)) folder) (sym c.as_slice-3.ensures) (c.in_ok-people.ensures.answers tells later) in
    let told : IsBugList (ops_in bug_kind entity.packs) → c.in_ok-text_of.field-0 ≡ show_text_of (snapshot_of (ops_in bug_kind entity.packs)) shown = c.in_ok-text_of.ensures in
    bug_shown (files_of old) folder c.args.word.now bug entity shown c.in_ok-text_of.field-0 finds is_bug c.in_ok-entity.ensures.rules
    (subst (λ (h : History). ArePeople (files_of h) folder shown) third people) told

-- what was read of the bug and of the people
pub returns-in_err-people-clause-reads : goal.returns-in_err-people-clause-reads
returns-in_err-people-clause-reads g c = λ tells.
    let old = g.S.Store.history c.args.disk.now in
    let folder = c.args.folder.now in
    let bug = c.in_ok-bug.bug in
    let first = c.in_ok-bug.ensures.unwritten tells in
    let second = c.in_ok-identities.ensures.unwritten tells ∙ first in
    let finds : FindsBug (files_of old) folder c.args.word.now bug = c.in_ok-bug.ensures.answers tells in
    let listed = listed_still (g.S.Store.history c.find_head.new.disk) old old folder c.in_ok-identities.identities c.as_slice-2.result.now first refl c.as_slice-2.ensures (c.in_ok-identities.ensures.answers tells) in
    let below : ReadsBelow (files_of old) folder bug (g.S.Store.object_reads c.identity_refs.new.disk) (g.S.Store.object_reads c.bug_among.new.disk) =
    subst (λ (h : History). ReadsBelow (files_of h) folder bug (g.S.Store.object_reads c.identity_refs.new.disk) (g.S.Store.object_reads c.bug_among.new.disk)) second (c.in_ok-entity.ensures.reads tells) in
    let from_start : ReadsBelow (files_of old) folder bug (g.S.Store.object_reads c.args.disk.now) (g.S.Store.object_reads c.bug_among.new.disk) =
    subst (λ (n : ℕ). ReadsBelow (files_of old) folder bug n (g.S.Store.object_reads c.bug_among.new.disk)) (c.in_ok-identities.ensures.reads ∙ c.in_ok-bug.ensures.reads) below in
    show_reads (files_of old) folder c.args.word.now bug c.as_slice-2.result.now _ _ _ finds listed from_start c.in_err-people.ensures.reads

pub returns-in_err-text_of-clause-reads : goal.returns-in_err-text_of-clause-reads
returns-in_err-text_of-clause-reads g c = λ tells.
    let old = g.S.Store.history c.args.disk.now in
    let folder = c.args.folder.now in
    let bug = c.in_ok-bug.bug in
    let first = c.in_ok-bug.ensures.unwritten tells in
    let second = c.in_ok-identities.ensures.unwritten tells ∙ first in
    let finds : FindsBug (files_of old) folder c.args.word.now bug = c.in_ok-bug.ensures.answers tells in
    let listed = listed_still (g.S.Store.history c.find_head.new.disk) old old folder c.in_ok-identities.identities c.as_slice-2.result.now first refl c.as_slice-2.ensures (c.in_ok-identities.ensures.answers tells) in
    let below : ReadsBelow (files_of old) folder bug (g.S.Store.object_reads c.identity_refs.new.disk) (g.S.Store.object_reads c.bug_among.new.disk) =
    subst (λ (h : History). ReadsBelow (files_of h) folder bug (g.S.Store.object_reads c.identity_refs.new.disk) (g.S.Store.object_reads c.bug_among.new.disk)) second (c.in_ok-entity.ensures.reads tells) in
    let from_start : ReadsBelow (files_of old) folder bug (g.S.Store.object_reads c.args.disk.now) (g.S.Store.object_reads c.bug_among.new.disk) =
    subst (λ (n : ℕ). ReadsBelow (files_of old) folder bug n (g.S.Store.object_reads c.bug_among.new.disk)) (c.in_ok-identities.ensures.reads ∙ c.in_ok-bug.ensures.reads) below in
    show_reads (files_of old) folder c.args.word.now bug c.as_slice-2.result.now _ _ _ finds listed from_start c.in_ok-people.ensures.reads

pub returns-clause-reads : goal.returns-clause-reads
returns-clause-reads g c = λ tells.
    let old = g.S.Store.history c.args.disk.now in
    let folder = c.args.folder.now in
    let bug = c.in_ok-bug.bug in
    let first = c.in_ok-bug.ensures.unwritten tells in
    let second = c.in_ok-identities.ensures.unwritten tells ∙ first in
    let finds : FindsBug (files_of old) folder c.args.word.now bug = c.in_ok-bug.ensures.answers tells in
    let listed = listed_still (g.S.Store.history c.find_head.new.disk) old old folder c.in_ok-identities.identities c.as_slice-2.result.now first refl c.as_slice-2.ensures (c.in_ok-identities.ensures.answers tells) in
    let below : ReadsBelow (files_of old) folder bug (g.S.Store.object_reads c.identity_refs.new.disk) (g.S.Store.object_reads c.bug_among.new.disk) =
    subst (λ (h : History). ReadsBelow (files_of h) folder bug (g.S.Store.object_reads c.identity_refs.new.disk) (g.S.Store.object_reads c.bug_among.new.disk)) second (c.in_ok-entity.ensures.reads tells) in
    let from_start : ReadsBelow (files_of old) folder bug (g.S.Store.object_reads c.args.disk.now) (g.S.Store.object_reads c.bug_among.new.disk) =
    subst (λ (n : ℕ). ReadsBelow (files_of old) folder bug n (g.S.Store.object_reads c.bug_among.new.disk)) (c.in_ok-identities.ensures.reads ∙ c.in_ok-bug.ensures.reads) below in
    show_reads (files_of old) folder c.args.word.now bug c.as_slice-2.result.now _ _ _ finds listed from_start c.in_ok-people.ensures.reads
