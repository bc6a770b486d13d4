-- What edits write keeps the trees of folders flat.
use Rattle.std.proofs.Common.{ℕ, List, ◌∷◌, ◌++◌, Contains, reverse, Option, None, Some, sym, ap, subst}
use Rattle.std.specs.Option.{option_map}
use Rattle.std.specs.Prelude.{option_and_then}
use Rattle.std.proofs.lemmas.List.Elements.{Contains-append_right}
use Rattle.gb_store.specs.Files.{Files, History, files_of}
use Rattle.gb_store.specs.declared.store.Change.{Change}
use Rattle.commit_walk.proofs.DistinctLemmas.{Contains-first, Contains-nil}
use Rattle.bug_edits.specs.NewOps.{create_op}
use Rattle.lamport.specs.Clock.{seen_by}
use Rattle.repo_state.specs.Clocks.{clock_at}
use Rattle.repo_state.specs.Users.{user_at, user_entry}
use Rattle.repo_state.specs.declared.side.HeadEntry.{HeadEntry}
use Rattle.repo_steps.specs.BugDoings.{addition_objects, later_by, root_addition, some_id}
use Rattle.repo_steps.specs.Doings.{doing_of}
use Rattle.repo_steps.specs.Own.{IsOwn, a_clock, a_head, an_object, the_user}
use Rattle.repo_steps.specs.PeopleDoings.{new_text}
use Rattle.repo_steps.specs.Picked.{Picked}
use Rattle.repo_steps.specs.Writes.{IsNext, IsWriteOf}
use Rattle.repo_steps.specs.declared.env.Env.{Env}
use Rattle.repo_steps.specs.declared.plan.Addition.{Addition}
use Rattle.repo_steps.proofs.OwnLemmas.{own}
use Rattle.words.specs.declared.edit.Edit.{Edit}
use Rattle.words.specs.declared.edit.Edit.TheVariants as edit
use Rattle.bug_run.specs.Runs.{AreApart}
use Rattle.flat_trees.proofs.KeepLemmas.{KeepsFlat, clock_keeps, ref_keeps, text_keeps, user_keeps}
use Rattle.flat_trees.proofs.TextLemmas.{IsFlatText, pack_texts, version_texts}

-- the texts of what is added to a bug
addition_texts : (now : ℕ) (added : Option Addition) (text : List ℕ) → Contains (addition_objects now added) text → IsFlatText text
addition_texts now None text among = absurd (Contains-nil text among)
addition_texts now (Some a) text among = pack_texts a.parents a.pack now text among

-- the texts that an edit makes
edit_texts : (env : Env) (command : Edit) (picked : Picked) (old : History) (text : List ℕ) → Contains (doing_of env command picked old).objects text → IsFlatText text
edit_texts env (edit.UserNew name email) picked old text among = version_texts (new_text env name email) None env.moment.now text among
edit_texts env (edit.UserEdit name email) picked old text among =
    version_texts (new_text env name email) (option_map (λ (e : HeadEntry). e.name) (user_entry (files_of old) env.folder)) env.moment.now text among
edit_texts env (edit.UserSet word) picked old text among = absurd (Contains-nil text among)
edit_texts env (edit.New title message) picked old text among =
    addition_texts env.moment.now (option_map (root_addition env.folder (files_of old) (create_op env.moment title message)) (some_id (user_at (files_of old) env.folder))) text among
edit_texts env (edit.OfBug word e) picked old text among =
    addition_texts env.moment.now (option_and_then (later_by env.folder (files_of old) picked.bug picked.op) (some_id (user_at (files_of old) env.folder))) text among
edit_texts env (edit.OfComment word message) picked old text among =
    addition_texts env.moment.now (option_and_then (later_by env.folder (files_of old) picked.bug picked.op) (some_id (user_at (files_of old) env.folder))) text among

-- the next write is one of all
next_among : (writes earlier : List Change) (change : Change) → IsNext writes earlier change → Contains writes change
next_among writes earlier change next =
    subst (λ (ws : List Change). Contains ws change) (sym next.are) (Contains-append_right (reverse earlier) (change ∷ next.later) change (Contains-first change next.later))

module _ (folders : List (List ℕ)) (apart : AreApart folders) (env : Env) (is : Contains folders env.folder) where
  pub edit_keeps : (command : Edit) (old : History) (earlier : List Change) (change : Change) → IsWriteOf env command old earlier change → KeepsFlat folders (files_of (earlier ++ old)) change
  edit_keeps command old earlier change write =
      by (own env old change command write.picked (next_among (doing_of env command write.picked old).writes earlier change write.next))
    where
      files : Files
      files = files_of (earlier ++ old)

      by : IsOwn env (doing_of env command write.picked old) old change → KeepsFlat folders (files_of (earlier ++ old)) change
      by (an_object text among put) = text_keeps folders files change text (ap (λ (c : Change). c.bytes) put) (λ all. edit_texts env command write.picked old text among)
      by (a_head set sets put) = ref_keeps folders apart env.folder is files change set.of set.id set.head put
      by (a_clock shown shows put) = clock_keeps folders apart env.folder is files change shown.which (seen_by (clock_at (files_of old) env.folder shown.which) shown.number) put
      by (the_user id told put) = user_keeps folders apart env.folder is files change id put
