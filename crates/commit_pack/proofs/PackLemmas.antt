-- Packs of commits, and what keeps a commit from having one.
use Rattle.std.proofs.Common.{◌≡◌, ◌≢◌, inl, inr, ℕ, List, Option, Some, None, Err, option_and_then, refl, sym, ◌∙◌, ap, subst}
use Rattle.std.specs.Prelude.{⊤}
use Rattle.gb_text.specs.declared.id.Id.{Id}
use Rattle.gb_text.specs.declared.id.Name.{Name}
use Rattle.object_store.specs.Held.{Objects}
use Rattle.object_store.specs.Typed.{AnswersAs, as_blob, blob_at}
use Rattle.object_store.specs.declared.fault.KindFault.{KindFault}
use Rattle.object_store.specs.declared.fault.KindFault.TheVariants as kind
use Rattle.op_kind.specs.Meaning.{Meaning}
use Rattle.op_kind.specs.declared.place.TheConstants.{VERSION}
use Rattle.op_pack.specs.Packs.{PackTextFault, PartsFault, pack_at}
use Rattle.op_pack.specs.Texts.{parts_at}
use Rattle.op_pack.specs.declared.fault.PackFault.{PackFault}
use Rattle.op_pack.specs.declared.fault.PackFault.TheVariants as pack
use Rattle.op_pack.specs.declared.head.TreeHead.{TreeHead}
use Rattle.op_pack.proofs.HeadLaws.{head_parts}
use Rattle.commit_pack.specs.Answers.{HeadAnswers, PackAnswers, SaysHead}
use Rattle.commit_pack.specs.Faults.{ops_fault, pack_fault}
use Rattle.commit_pack.specs.Packs.{NamesOps, pack_in, pack_of_head, pack_under}
use Rattle.commit_pack.specs.declared.fault.CommitPackFault.{CommitPackFault}
use Rattle.commit_pack.specs.declared.fault.CommitPackFault.TheVariants as fault

-- ---- refusals of the head

-- a fault of a text alone
abbrev IsTextFault : PackFault → Type 0
IsTextFault pack.BadPack = ⊤
IsTextFault (pack.BadOperation i f) = ⊤
IsTextFault (pack.TooLarge n) = ⊤
IsTextFault _ = ⊥

module _ {Op State Row : Type 0} (k : Meaning Op State Row) where
  -- the faults of a text are of these kinds
  pub text_fault_is : (text : List ℕ) (f : PackFault) → PackTextFault k VERSION text f → IsTextFault f
  unfolding PackTextFault
  text_fault_is text f h = each (parts_at text) f h
    where
      each : (o : Option (Id × List (List ℕ))) (f : PackFault) → PartsFault k VERSION o f → IsTextFault f
      each None f is = subst IsTextFault (sym is) tt
      each (Some parts) pack.Memory h = absurd h
      each (Some parts) (pack.UnknownVersion n) h = absurd h
      each (Some parts) pack.NoOps h = absurd h
      each (Some parts) pack.BadClock h = absurd h
      each (Some parts) pack.BadPack h = absurd h
      each (Some parts) (pack.BadOperation i f) h = tt
      each (Some parts) (pack.TooLarge n) h = tt

  -- a tree that says no head has no pack
  pub PackAnswers-head : (objects : Objects) (name : Name) (f : CommitPackFault) → HeadAnswers objects name (Err f) → PackAnswers k objects name (Err f)
  PackAnswers-head objects name fault.Memory h = tt
  PackAnswers-head objects name fault.Disk h = tt
  PackAnswers-head objects name (fault.Missing n) h = rw h.0 (inl refl, h.1)
  PackAnswers-head objects name (fault.Damaged n) h = rw h.0 (inl refl, h.1)
  PackAnswers-head objects name (fault.Large n) h = rw h.0 (inl refl, h.1)
  PackAnswers-head objects name fault.BadTree h = h
  PackAnswers-head objects name (fault.UnknownVersion n) h = h
  PackAnswers-head objects name fault.NoOps h = inl h
  PackAnswers-head objects name fault.BadClock h = h
  PackAnswers-head objects name fault.BadPack h = absurd h
  PackAnswers-head objects name (fault.BadOperation i f) h = absurd h
  PackAnswers-head objects name (fault.TooLarge n) h = absurd h

  module _ (objects : Objects) (name : Name) (head : TreeHead) (says : SaysHead objects name head) where
    -- its file `ops` names what the head names
    pub names : NamesOps objects name head.ops
    names = record { tree = says.tree; held = says.held; named = (head_parts says.tree head says.says).ops }

    -- what its file `ops` names is no blob
    pub PackAnswers-ops : (f : KindFault) → AnswersAs as_blob objects head.ops (Err f) → PackAnswers k objects name (Err (ops_fault f))
    PackAnswers-ops kind.Memory h = tt
    PackAnswers-ops kind.Disk h = tt
    PackAnswers-ops (kind.Missing n) h = rw h.0 (inr names, h.1)
    PackAnswers-ops (kind.Damaged n) h = rw h.0 (inr names, h.1)
    PackAnswers-ops (kind.Large n) h = rw h.0 (inr names, h.1)
    PackAnswers-ops (kind.OtherKind n) h = inr (record { ops = head.ops; names = names; is_other = h.1 })

    module _ (text : List ℕ) (held : blob_at objects head.ops ≡ Some text) where
      -- the text has a fault
      fails-text : (f : PackFault) → PackTextFault k VERSION text f → PackAnswers k objects name (Err (pack_fault f))
      fails-text pack.Memory h = tt
      fails-text (pack.UnknownVersion n) h = absurd (text_fault_is text (pack.UnknownVersion n) h)
      fails-text pack.NoOps h = absurd (text_fault_is text pack.NoOps h)
      fails-text pack.BadClock h = absurd (text_fault_is text pack.BadClock h)
      fails-text pack.BadPack h = record { ops = head.ops; names = names; text = text; held = held; fails = h }
      fails-text (pack.BadOperation i f) h = record { ops = head.ops; names = names; text = text; held = held; fails = h }
      fails-text (pack.TooLarge n) h = record { ops = head.ops; names = names; text = text; held = held; fails = h }

      -- it is that of no pack
      pub PackAnswers-text : (f : PackFault) → (f ≢ pack.Memory → PackTextFault k VERSION text f) → PackAnswers k objects name (Err (pack_fault f))
      PackAnswers-text pack.Memory h = tt
      PackAnswers-text (pack.UnknownVersion n) h = fails-text (pack.UnknownVersion n) (h (λ e. cc))
      PackAnswers-text pack.NoOps h = fails-text pack.NoOps (h (λ e. cc))
      PackAnswers-text pack.BadClock h = fails-text pack.BadClock (h (λ e. cc))
      PackAnswers-text pack.BadPack h = fails-text pack.BadPack (h (λ e. cc))
      PackAnswers-text (pack.BadOperation i f) h = fails-text (pack.BadOperation i f) (h (λ e. cc))
      PackAnswers-text (pack.TooLarge n) h = fails-text (pack.TooLarge n) (h (λ e. cc))

      -- it is the commit's
      pub pack_is : pack_under k objects name ≡ pack_at k head text
      pack_is = ap (option_and_then (pack_in k objects)) says.held ∙ ap (option_and_then (pack_of_head k objects)) says.says ∙ ap (option_and_then (pack_at k head)) held
