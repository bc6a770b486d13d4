use Rattle.std.proofs.Common.{◌≡◌, [], ◌++◌, List, ℕ, Option, take, sym, ◌∙◌, ap, subst, arith}
use Rattle.std.proofs.lemmas.Grind.{common_steps}
use Rattle.std.specs.List.{cons_option, filter_map}
use Rattle.gb_store.specs.Files.{History, files_of}
use Rattle.gb_store.proofs.FaultLemmas.{KeepsFaults_then}
use Rattle.ref_store.specs.Listing.{loose_named}
use Rattle.ref_store.specs.declared.listing.RefEntry.{RefEntry}
use Rattle.ref_store.proofs.ListLemmas.{filter_map-more}
use Rattle.ref_store.proofs.loose.loose_entries.Goals.{in-Some+in_ok-push, in_default}
use Rattle.ref_store.proofs.loose.loose_entries.Goals as goal

pub loop-name-preserved : goal.loop-name-preserved
loop-name-preserved g c =
    let name = c.name-item.result in
    let added : c.match-branch-2.entries.items ≡ c.loop-name.entries.items ++ cons_option c.in_ok-entry.field-0 [] = elim c.match-branch-2.branch [
      | in-Some+in_ok-push w ↦ grind (arith, common_steps)
      | in_default w ↦ grind (arith, common_steps)
    ] in
    record {
      entries = λ tells.
          let all = loose_named (files_of (g.S.Store.history c.args.disk.now)) c.args.folder.now c.args.dir.now in
          let entry : c.in_ok-entry.field-0 ≡ all name =
          subst (λ (h : History). c.in_ok-entry.field-0 ≡ loose_named (files_of h) c.args.folder.now c.args.dir.now name) (c.loop-name.invariant.unwritten tells) (c.in_ok-entry.ensures.entry tells) in
          added ∙ ap (λ (es : List RefEntry). es ++ cons_option c.in_ok-entry.field-0 []) (c.loop-name.invariant.entries tells)
          ∙ ap (λ (o : Option RefEntry). filter_map all (take c.loop-name.name-index c.args.names.now) ++ cons_option o []) entry
          ∙ ap (λ (n : List ℕ). filter_map all (take c.loop-name.name-index c.args.names.now) ++ cons_option (all n) []) c.name-item.is
          ∙ sym (filter_map-more all c.args.names.now c.loop-name.name-index name c.loop-name-test.true);
      unwritten = λ tells. c.in_ok-entry.ensures.unwritten tells ∙ c.loop-name.invariant.unwritten tells;
      reads = c.in_ok-entry.ensures.reads ∙ c.loop-name.invariant.reads;
      caused = KeepsFaults_then g.S.Store.never_fails g.S.Store.faults _ ⊥ c.args.disk.now c.loop-name.disk c.entry_at.new.disk c.loop-name.invariant.caused c.in_ok-entry.ensures.caused (λ none. absurd none) (λ fails. absurd (cc));
    }
