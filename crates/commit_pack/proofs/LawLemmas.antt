-- A commit has a pack or a fault, and its pack is what its tree and its text say.
use Rattle.std.proofs.Common.{◌≡◌, ◌⊎◌, inl, inr, ℕ, List, Option, Some, None, option_and_then, refl, sym, ◌∙◌, ap}
use Rattle.gb_text.specs.declared.id.Name.{Name}
use Rattle.git_object.specs.declared.object.Object.{Object}
use Rattle.git_object.specs.declared.tree.Tree.{Tree}
use Rattle.object_store.specs.Growth.{OnlyGrew}
use Rattle.object_store.specs.Held.{Objects, object_at}
use Rattle.object_store.specs.Typed.{CannotReadAs, as_blob, as_tree, blob_at, tree_at}
use Rattle.object_store.specs.declared.fault.KindFault.{KindFault}
use Rattle.object_store.specs.declared.fault.KindFault.TheVariants as kind
use Rattle.object_store.specs.declared.fault.ObjFault.TheVariants as object
use Rattle.object_store.proofs.FaultLemmas.{fault-none, holds_as_or_fails}
use Rattle.object_store.proofs.GrowthLemmas.{bind-some, stays}
use Rattle.op_kind.specs.Meaning.{KeepsLaws, Meaning}
use Rattle.op_kind.specs.declared.place.TheConstants.{VERSION}
use Rattle.op_pack.specs.Heads.{HeadFault, edit_clock_of, head_of}
use Rattle.op_pack.specs.Packs.{PackTextFault, pack_at}
use Rattle.op_pack.specs.declared.fault.PackFault.{PackFault}
use Rattle.op_pack.specs.declared.fault.PackFault.TheVariants as pack
use Rattle.op_pack.specs.declared.head.TreeHead.{TreeHead}
use Rattle.op_pack.specs.declared.pack.Pack.{Pack}
use Rattle.op_pack.proofs.ExactLaws.{pack_found, pack_only}
use Rattle.op_pack.proofs.HeadLaws.{head_fault_means_none, head_parts, none_means_head_fault}
use Rattle.op_pack.proofs.PackLaws.{none_means_text_fault, text_fault_means_none}
use Rattle.commit_pack.specs.Answers.{SaysHead}
use Rattle.commit_pack.specs.Packs.{CommitPackFaultHolds, IsPackUnder, NamesOps, PackNeeds, TextFails, pack_in, pack_of_head, pack_under}
use Rattle.commit_pack.specs.declared.fault.CommitPackFault.{CommitPackFault}
use Rattle.commit_pack.specs.declared.fault.CommitPackFault.TheVariants as fault
use Rattle.commit_pack.proofs.PackLemmas.{PackAnswers-head, PackAnswers-ops, PackAnswers-text, pack_is, text_fault_is}

module _ {Op State Row : Type 0} (k : Meaning Op State Row) (objects : Objects) (name : Name) where
  -- what a pack is made of
  record Parts (pack : Pack Op) : Type 0 where
    head : TreeHead
    says : SaysHead objects name head
    text : List ℕ
    held : blob_at objects head.ops ≡ Some text
    reads : pack_at k head text ≡ Some pack

  parts_of : (pack : Pack Op) → pack_under k objects name ≡ Some pack → Parts pack
  parts_of pack e =
      let tree = bind-some (pack_in k objects) (tree_at objects name) pack e in
      let head = bind-some (pack_of_head k objects) (head_of tree.0) pack tree.2 in
      let text = bind-some (pack_at k head.0) (blob_at objects head.0.ops) pack head.2 in
      record { head = head.0; says = record { tree = tree.0; held = tree.1; says = head.1 }; text = text.0; held = text.1; reads = text.2 }

  -- the pack that is computed is what the tree and the text say
  pub pack_under-found : (pack : Pack Op) → pack_under k objects name ≡ Some pack → IsPackUnder k objects name pack
  pack_under-found pack e =
      let parts = parts_of pack e in
      let found = pack_found k parts.head parts.text pack parts.reads in
      record { tree = parts.says.tree; held = parts.says.held; head = parts.head; says = parts.says.says; text = parts.text; holds = parts.held; slices = found.0; is = found.1 }

  -- and no other
  pub pack_under-only : (pack : Pack Op) → IsPackUnder k objects name pack → pack_under k objects name ≡ Some pack
  pack_under-only pack is =
      pack_is k objects name is.head (record { tree = is.tree; held = is.held; says = is.says }) is.text is.holds ∙ pack_only k is.head is.text is.slices pack is.is

  -- its edit clock is the tree's
  pub pack_edit : (pack : Pack Op) → pack_under k objects name ≡ Some pack → option_and_then edit_clock_of (tree_at objects name) ≡ Some pack.edit
  pack_edit pack e =
      let is = pack_under-found pack e in
      ap (option_and_then edit_clock_of) is.held ∙ (head_parts is.tree is.head is.says).edit ∙ ap Some (sym is.is.edit_is)

  -- what `ops` names is the text of no pack
  no_pack : (ops : Name) (of : NamesOps objects name ops) → ((head : TreeHead) → head.ops ≡ ops → pack_of_head k objects head ≡ None) → pack_under k objects name ≡ None
  no_pack ops of none = ap (option_and_then (pack_in k objects)) of.held ∙ each (head_of of.tree) refl
    where
      each : (o : Option TreeHead) → head_of of.tree ≡ o → pack_in k objects of.tree ≡ None
      each None e = ap (option_and_then (pack_of_head k objects)) e
      each (Some head) e =
          let same : Some head.ops ≡ Some ops = sym (head_parts of.tree head e).ops ∙ of.named in
          let is : head.ops ≡ ops = cc in
          ap (option_and_then (pack_of_head k objects)) e ∙ none head is

  no_blob : (ops : Name) → NamesOps objects name ops → blob_at objects ops ≡ None → pack_under k objects name ≡ None
  no_blob ops of none = no_pack ops of (λ head is. ap (λ (n : Name). option_and_then (pack_at k head) (blob_at objects n)) is ∙ ap (option_and_then (pack_at k head)) none)

  -- an object that is needed and not held
  no_object : (n : Name) → PackNeeds objects name n → object_at objects n ≡ None → pack_under k objects name ≡ None
  no_object n (inl e) none = ap (λ (o : Option Object). option_and_then (pack_in k objects) (option_and_then as_tree o)) (ap (object_at objects) (sym e) ∙ none)
  no_object n (inr of) none = no_blob n of (ap (option_and_then as_blob) none)

  no_head : (tree : Tree) (f : PackFault) → tree_at objects name ≡ Some tree → HeadFault tree f → pack_under k objects name ≡ None
  no_head tree f held fails = ap (option_and_then (pack_in k objects)) held ∙ ap (option_and_then (pack_of_head k objects)) (head_fault_means_none tree f fails)

  module _ (laws : KeepsLaws k) where
    no_text : (f : PackFault) → TextFails k objects name f → pack_under k objects name ≡ None
    no_text f fails = no_pack fails.ops fails.names (λ head is.
        ap (λ (n : Name). option_and_then (pack_at k head) (blob_at objects n)) is ∙ ap (option_and_then (pack_at k head)) fails.held
        ∙ text_fault_means_none k laws head fails.text f fails.fails)

    -- a fault leaves a commit without a pack
    pub fault-no_pack : (f : CommitPackFault) → CommitPackFaultHolds k objects name f → pack_under k objects name ≡ None
    fault-no_pack fault.Memory h = absurd h
    fault-no_pack fault.Disk h = absurd h
    fault-no_pack (fault.Missing n) h = no_object n h.0 (fault-none objects n (object.Missing n) (refl, h.1))
    fault-no_pack (fault.Damaged n) h = no_object n h.0 h.1.is_none
    fault-no_pack (fault.Large n) h = no_object n h.0 (fault-none objects n (object.Large n) (refl, h.1))
    fault-no_pack fault.BadTree h = ap (λ (o : Option Tree). option_and_then (pack_in k objects) o) (ap (option_and_then as_tree) h.held ∙ h.is_none)
    fault-no_pack (fault.UnknownVersion n) h = no_head h.tree (pack.UnknownVersion n) h.held h.fails
    fault-no_pack fault.NoOps (inl h) = no_head h.tree pack.NoOps h.held h.fails
    fault-no_pack fault.NoOps (inr h) = no_blob h.ops h.names (ap (option_and_then as_blob) h.is_other.held ∙ h.is_other.is_none)
    fault-no_pack fault.BadClock h = no_head h.tree pack.BadClock h.held h.fails
    fault-no_pack fault.BadPack h = no_text pack.BadPack h
    fault-no_pack (fault.BadOperation i f) h = no_text (pack.BadOperation i f) h
    fault-no_pack (fault.TooLarge n) h = no_text (pack.TooLarge n) h

    -- never both
    pub not_both : (pack : Pack Op) (f : CommitPackFault) → pack_under k objects name ≡ Some pack → CommitPackFaultHolds k objects name f → ⊥
    not_both pack f is holds = let no : None ≡ Some pack = sym (fault-no_pack f holds) ∙ is in cc

    abbrev HasPackOrFault : Type 0
    HasPackOrFault = ((pack : Pack Op) × (pack_under k objects name ≡ Some pack)) ⊎ ((f : CommitPackFault) × CommitPackFaultHolds k objects name f)

    cause-tree : (f : KindFault) → CannotReadAs as_tree objects name f → HasPackOrFault
    cause-tree kind.Memory h = absurd h
    cause-tree kind.Disk h = absurd h
    cause-tree (kind.Missing n) h = inr (fault.Missing n, PackAnswers-head k objects name (fault.Missing n) h)
    cause-tree (kind.Damaged n) h = inr (fault.Damaged n, PackAnswers-head k objects name (fault.Damaged n) h)
    cause-tree (kind.Large n) h = inr (fault.Large n, PackAnswers-head k objects name (fault.Large n) h)
    cause-tree (kind.OtherKind n) h = inr (fault.BadTree, h.1)

    cause-head : (tree : Tree) (f : PackFault) → tree_at objects name ≡ Some tree → HeadFault tree f → HasPackOrFault
    cause-head tree pack.Memory held h = absurd h
    cause-head tree (pack.UnknownVersion n) held h = inr (fault.UnknownVersion n, record { tree = tree; held = held; fails = h })
    cause-head tree pack.NoOps held h = inr (fault.NoOps, inl (record { tree = tree; held = held; fails = h }))
    cause-head tree pack.BadClock held h = inr (fault.BadClock, record { tree = tree; held = held; fails = h })
    cause-head tree pack.BadPack held h = absurd h
    cause-head tree (pack.BadOperation i f) held h = absurd h
    cause-head tree (pack.TooLarge n) held h = absurd h

    module _ (head : TreeHead) (says : SaysHead objects name head) where
      cause-ops : (f : KindFault) → CannotReadAs as_blob objects head.ops f → HasPackOrFault
      cause-ops kind.Memory h = absurd h
      cause-ops kind.Disk h = absurd h
      cause-ops (kind.Missing n) h = inr (fault.Missing n, PackAnswers-ops k objects name head says (kind.Missing n) h)
      cause-ops (kind.Damaged n) h = inr (fault.Damaged n, PackAnswers-ops k objects name head says (kind.Damaged n) h)
      cause-ops (kind.Large n) h = inr (fault.Large n, PackAnswers-ops k objects name head says (kind.Large n) h)
      cause-ops (kind.OtherKind n) h = inr (fault.NoOps, PackAnswers-ops k objects name head says (kind.OtherKind n) h)

      cause-text : (text : List ℕ) (f : PackFault) → blob_at objects head.ops ≡ Some text → PackTextFault k VERSION text f → HasPackOrFault
      cause-text text pack.Memory held h = absurd (text_fault_is k text pack.Memory h)
      cause-text text (pack.UnknownVersion n) held h = absurd (text_fault_is k text (pack.UnknownVersion n) h)
      cause-text text pack.NoOps held h = absurd (text_fault_is k text pack.NoOps h)
      cause-text text pack.BadClock held h = absurd (text_fault_is k text pack.BadClock h)
      cause-text text pack.BadPack held h = inr (fault.BadPack, PackAnswers-text k objects name head says text held pack.BadPack (λ no. h))
      cause-text text (pack.BadOperation i f) held h = inr (fault.BadOperation i f, PackAnswers-text k objects name head says text held (pack.BadOperation i f) (λ no. h))
      cause-text text (pack.TooLarge n) held h = inr (fault.TooLarge n, PackAnswers-text k objects name head says text held (pack.TooLarge n) (λ no. h))

      by_text : HasPackOrFault
      by_text = elim (holds_as_or_fails as_blob objects head.ops) [
        | inl found ↦ each found.0 found.1 (pack_at k head found.0) refl
        | inr fails ↦ cause-ops fails.0 fails.1
      ]
        where
          each : (text : List ℕ) → blob_at objects head.ops ≡ Some text → (o : Option (Pack Op)) → pack_at k head text ≡ o → HasPackOrFault
          each text held None e = let fails = none_means_text_fault k laws head text e in cause-text text fails.0 held fails.1
          each text held (Some pack) e = inl (pack, pack_is k objects name head says text held ∙ e)

    -- a commit has a pack or a fault
    pub pack_or_fault : HasPackOrFault
    pack_or_fault = elim (holds_as_or_fails as_tree objects name) [
      | inl found ↦ each found.0 found.1 (head_of found.0) refl
      | inr fails ↦ cause-tree fails.0 fails.1
    ]
      where
        each : (tree : Tree) → tree_at objects name ≡ Some tree → (o : Option TreeHead) → head_of tree ≡ o → HasPackOrFault
        each tree held None e = let fails = none_means_head_fault tree e in cause-head tree fails.0 held fails.1
        each tree held (Some head) e = by_text head (record { tree = tree; held = held; says = e })

-- what is only added to keeps packs
pub pack_stays : {Op State Row : Type 0} (k : Meaning Op State Row) (old new : Objects) (name : Name) (pack : Pack Op) → OnlyGrew old new
    → pack_under k old name ≡ Some pack → pack_under k new name ≡ Some pack
pack_stays k old new name pack grew e =
    let parts = parts_of k old name pack e in
    let tree = stays old new grew as_tree name parts.says.tree parts.says.held in
    pack_is k new name parts.head (record { tree = parts.says.tree; held = tree; says = parts.says.says }) parts.text (stays old new grew as_blob parts.head.ops parts.text parts.held) ∙ parts.reads
