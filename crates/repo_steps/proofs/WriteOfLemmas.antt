-- Whatever a command answers, each of its writes is the next that it makes, and of a kind.
use Rattle.std.proofs.Common.{◌≡◌, inl, inr, List, [], ◌∷◌, ◌++◌, reverse, Result, Ok, Err, sym, ◌∙◌, ap, subst, append_assoc}
use Rattle.std.proofs.lemmas.List.{append_cancel_right, reverse-append, reverse-reverse}
use Rattle.repo_steps.proofs.Names.{Id, History, EachWrite, Wrote, WroteSome, at_moment, Change, WroteBy-before, WroteSome-there, Env, Stop, IsWrite, DoingAnswers, IsStopped, AllPass, EditAnswers, doing_of, Picked, IsWriteOf, Edit}
use Rattle.gb_store.specs.Moments.{WroteBy}
use Rattle.gb_store.proofs.MomentLemmas.{WroteBy-none, WroteBy-wider}
use Rattle.repo_steps.specs.declared.refusal.Stop.TheVariants as stop
use Rattle.repo_steps.proofs.DoneLemmas.{after, made_so}

module _ (env : Env) (command : Edit) (picked : Picked) (old : History) (may : AllPass (doing_of env command picked old).checks) where
  abbrev all : List Change
  all = (doing_of env command picked old).writes

  -- each of the first writes, behind which these come later, is the next behind those before it
  nexts : (writes later : List Change) → reverse all ≡ later ++ writes → EachWrite (at_moment (IsWrite env.folder)) old writes → EachWrite (IsWriteOf env command) old writes
  nexts [] later are each = tt
  nexts (change ∷ earlier) later are each =
      let back : all ≡ reverse (later ++ change ∷ earlier) = sym (reverse-reverse all) ∙ ap reverse are in
      let split : reverse (later ++ change ∷ earlier) ≡ reverse (change ∷ earlier) ++ reverse later = reverse-append later (change ∷ earlier) in
      let front : reverse (change ∷ earlier) ++ reverse later ≡ reverse earlier ++ change ∷ reverse later =
      ap (λ (ws : List Change). ws ++ reverse later) (reverse-append (change ∷ []) earlier) ∙ append_assoc (reverse earlier) (change ∷ []) (reverse later) in (
        nexts earlier (later ++ change ∷ []) (are ∙ sym (append_assoc later (change ∷ []) earlier)) each.0,
        record { picked = picked; may = may; next = record { later = reverse later; are = back ∙ split ∙ front }; kind = each.1 },
      )

  -- so are all of them
  all_wrote : WroteBy (IsWriteOf env command) old (after (doing_of env command picked old) old)
  all_wrote =
      let wrote = (made_so env command picked old may).wrote in
      let same : reverse all ≡ wrote.writes = append_cancel_right (reverse all) wrote.writes old wrote.grew in
      record { writes = wrote.writes; grew = wrote.grew; each = nexts wrote.writes [] same wrote.each }

  -- and the first of them
  some_wrote : (new : History) → WroteSome all old new → WroteBy (IsWriteOf env command) old new
  some_wrote new some =
      let is = WroteSome-there all old new some in
      WroteBy-before (IsWriteOf env command) old (reverse all ++ old) new all_wrote (record {
        later = reverse is.1;
        done = reverse is.0;
        before = is.3;
        after = ap (λ (ws : List Change). reverse ws ++ old) is.2 ∙ ap (λ (ws : List Change). ws ++ old) (reverse-append is.0 is.1)
            ∙ append_assoc (reverse is.1) (reverse is.0) old ∙ ap (λ (h : History). reverse is.1 ++ h) (sym is.3);
      })

-- whatever an edit answers, its writes are its own
pub answers_wrote_of : (env : Env) (command : Edit) (old new : History) (r : Result Id Stop) → EditAnswers env command old new r → WroteBy (IsWriteOf env command) old new
answers_wrote_of env command old new r (picked, answers) = each r answers
  where
    stopped : IsStopped (doing_of env command picked old) old new → WroteBy (IsWriteOf env command) old new
    stopped (inl same) = WroteBy-none (IsWriteOf env command) old new same
    stopped (inr some) = some_wrote env command picked old some.0 new some.1

    each : (r : Result Id Stop) → DoingAnswers (doing_of env command picked old) old new r → WroteBy (IsWriteOf env command) old new
    each (Ok id) done = subst (WroteBy (IsWriteOf env command) old) (sym done.writes) (all_wrote env command picked old done.may)
    each (Err stop.Memory) some = stopped some
    each (Err stop.Disk) some = stopped some
    each (Err (stop.Refused r)) refused = WroteBy-none (IsWriteOf env command) old new refused.1

-- so each is of a kind
pub answers_wrote : (env : Env) (command : Edit) (old new : History) (r : Result Id Stop) → EditAnswers env command old new r → Wrote (IsWrite env.folder) old new
answers_wrote env command old new r is = WroteBy-wider (IsWriteOf env command) (at_moment (IsWrite env.folder)) old new (λ earlier change write. write.kind) (answers_wrote_of env command old new r is)
