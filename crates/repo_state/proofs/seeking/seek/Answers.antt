use Rattle.std.proofs.Common.{◌≡◌, List, [], take, get_or, Result, Ok, Err, rules, subst, sym, ◌∙◌}
use Rattle.std.proofs.lemmas.List.{take_more}
use Rattle.gb_text.specs.Prefix.{digits_of}
use Rattle.gb_text.specs.declared.id.Id.{Id}
use Rattle.gb_store.specs.Files.{History, files_of}
use Rattle.gb_store.proofs.FaultLemmas.{KeepsFaults_then}
use Rattle.repo_state.specs.Listed.{AreIdentityRefs}
use Rattle.repo_state.specs.Seeking.{IdAdded, IsSoughtAmong, ReadsAmong, ReadsIfSought, SeekAnswers}
use Rattle.repo_state.specs.declared.seeking.Sought.{Sought}
use Rattle.repo_state.specs.declared.stop.ReadStop.{ReadStop}
use Rattle.repo_state.proofs.SeekLemmas.{adds_id, id_is_id, id_is_new, reads_more, reads_until, stops_at_bad}
use Rattle.repo_state.proofs.seeking.seek.Goals as goal

none : Id
none = record { bytes = [] }

pub loop-id-preserved : goal.loop-id-preserved
unfolding none
loop-id-preserved g c =
    let files = files_of (g.S.Store.history c.args.disk.now) in
    let folder = c.args.folder.now in
    let word = digits_of c.args.prefix.now in
    let ids = c.args.ids.now in
    let place = c.loop-id.id-index in
    let within = c.loop-id-test.true in
    let next = sym (take_more ids place none within) in
    let was = c.loop-id.invariant in
    record {
      found = λ tells are listed.
          let there = subst (λ (h : History). AreIdentityRefs (files_of h) folder c.args.identities.now) (sym (was.unwritten tells)) listed in
          let added : IdAdded files folder word (get_or ids place none) c.loop-id.sought (Ok c.in_ok-sought.sought) =
          subst (λ (h : History). IdAdded (files_of h) folder word (get_or ids place none) c.loop-id.sought (Ok c.in_ok-sought.sought)) (was.unwritten tells)
          (c.in_ok-sought.ensures.answers tells (id_is_id files folder ids are place none within) there) in
          subst (λ (l : List Id). IsSoughtAmong files folder word l c.in_ok-sought.sought) next
          (adds_id files folder word (take place ids) (get_or ids place none) c.loop-id.sought c.in_ok-sought.sought (was.found tells are listed) (id_is_new files folder ids are place none within) added);
      rules = c.in_ok-sought.ensures.rules;
      unwritten = λ tells. c.in_ok-sought.ensures.unwritten tells ∙ was.unwritten tells;
      reads = λ tells are.
          let read : ReadsIfSought files folder word (get_or ids place none) (g.S.Store.object_reads c.loop-id.disk) (g.S.Store.object_reads c.with_id.new.disk) =
          subst (λ (h : History). ReadsIfSought (files_of h) folder word (get_or ids place none) (g.S.Store.object_reads c.loop-id.disk) (g.S.Store.object_reads c.with_id.new.disk)) (was.unwritten tells)
          (c.in_ok-sought.ensures.reads tells (id_is_id files folder ids are place none within)) in
          subst (λ (l : List Id). ReadsAmong files folder word l (g.S.Store.object_reads c.args.disk.now) (g.S.Store.object_reads c.with_id.new.disk)) next
          (reads_more files folder word (take place ids) (get_or ids place none) _ _ _ (was.reads tells are) read);
      caused = KeepsFaults_then g.S.Store.never_fails g.S.Store.faults _ ⊥ c.args.disk.now c.loop-id.disk c.with_id.new.disk was.caused c.in_ok-sought.ensures.caused (λ never. absurd never) (λ fails. absurd (cc));
    }

pub returns-in_err-sought-clause-answers : goal.returns-in_err-sought-clause-answers
unfolding none
returns-in_err-sought-clause-answers g c = λ tells are listed.
    let files = files_of (g.S.Store.history c.args.disk.now) in
    let folder = c.args.folder.now in
    let word = digits_of c.args.prefix.now in
    let ids = c.args.ids.now in
    let place = c.loop-id.id-index in
    let within = c.loop-id-test.true in
    let was = c.loop-id.invariant in
    let why = c.in_err-sought.field-0.0 in
    let is : c.from_residual.result ≡ Err why = search rules in
    let there = subst (λ (h : History). AreIdentityRefs (files_of h) folder c.args.identities.now) (sym (was.unwritten tells)) listed in
    let told : IdAdded files folder word (get_or ids place none) c.loop-id.sought (Err why) =
    subst (λ (h : History). IdAdded (files_of h) folder word (get_or ids place none) c.loop-id.sought (Err why)) (was.unwritten tells)
    (c.in_err-sought.ensures.answers tells (id_is_id files folder ids are place none within) there) in
    subst (λ (r : Result Sought ReadStop). SeekAnswers files folder word ids r) (sym is)
    (stops_at_bad files folder word ids are place none within c.loop-id.sought (was.found tells are listed) why told)

pub returns-in_err-sought-clause-reads : goal.returns-in_err-sought-clause-reads
unfolding none
returns-in_err-sought-clause-reads g c = λ tells are.
    let files = files_of (g.S.Store.history c.args.disk.now) in
    let folder = c.args.folder.now in
    let word = digits_of c.args.prefix.now in
    let ids = c.args.ids.now in
    let place = c.loop-id.id-index in
    let within = c.loop-id-test.true in
    let was = c.loop-id.invariant in
    let read : ReadsIfSought files folder word (get_or ids place none) (g.S.Store.object_reads c.loop-id.disk) (g.S.Store.object_reads c.with_id.new.disk) =
    subst (λ (h : History). ReadsIfSought (files_of h) folder word (get_or ids place none) (g.S.Store.object_reads c.loop-id.disk) (g.S.Store.object_reads c.with_id.new.disk)) (was.unwritten tells)
    (c.in_err-sought.ensures.reads tells (id_is_id files folder ids are place none within)) in
    reads_until files folder word ids place none within _ _ _ (was.reads tells are) read
