use Rattle.std.proofs.Common.{◌≡◌, List, ℕ, [], ◌∷◌, ◌++◌, Some, ◌∙◌, ap, refl, sym, subst}
use Rattle.hex.specs.Hex.{encode_lower}
use Rattle.gb_text.specs.Folder.{joined}
use Rattle.gb_store.specs.Files.{History, Put, files_of, written}
use Rattle.gb_store.proofs.FrameLemmas.{written-same}
use Rattle.gb_store.specs.Moments.{MaybeWrote}
use Rattle.gb_store.specs.declared.store.Change.{Change}
use Rattle.gb_store.proofs.MomentLemmas.{WroteIf_one}
use Rattle.ref_store.specs.Refs.{ref_at, ref_of}
use Rattle.ref_store.specs.Setting.{PutsRef, ref_write}
use Rattle.ref_store.proofs.FrameLemmas.{loose_ref}
use Rattle.ref_store.proofs.write.set.Goals as goal

pub returns-clause-reads_back : goal.returns-clause-reads_back
returns-clause-reads_back g c = λ tells.
    let old = g.S.Store.history c.args.disk.now in
    let text = encode_lower c.args.head.now.bytes ++ 10 ∷ [] in
    let change = ref_write c.args.folder.now c.args.path.now c.args.head.now in
    let is : Put c.as_str.result.now c.as_slice.result.now ≡ change =
    ap (λ (p : List ℕ). Put p c.as_slice.result.now) (c.as_str.ensures ∙ c.in_ok-at.ensures) ∙ ap (Put (joined c.args.folder.now c.args.path.now)) (c.as_slice.ensures ∙ c.in_ok-text.ensures.text) in
    let done : g.S.Store.history c.put.new.self ≡ change ∷ old = c.in_ok-put.ensures.done tells ∙ ap (λ (w : Change). w ∷ old) is in
    ap (λ (h : History). ref_at (files_of h) c.args.folder.now c.args.path.now) done
    ∙ loose_ref (written (files_of old) change) c.args.folder.now c.args.path.now text (written-same (files_of old) change)
    ∙ ap (λ (t : List ℕ). ref_of (Some t)) (sym c.in_ok-text.ensures.text) ∙ c.in_ok-text.ensures.reads_back

pub returns-in_err-put-clause-wrote : goal.returns-in_err-put-clause-wrote
returns-in_err-put-clause-wrote g c =
    let change : Put c.as_str.result.now c.as_slice.result.now ≡ ref_write c.args.folder.now c.args.path.now c.args.head.now =
    ap (λ (p : List ℕ). Put p c.as_slice.result.now) (c.as_str.ensures ∙ c.in_ok-at.ensures) ∙ ap (Put (joined c.args.folder.now c.args.path.now)) (c.as_slice.ensures ∙ c.in_ok-text.ensures.text) in
    WroteIf_one g.S.Store.tells (PutsRef c.args.folder.now c.args.path.now c.args.head.now) (ref_write c.args.folder.now c.args.path.now c.args.head.now) (g.S.Store.history c.args.disk.now) (g.S.Store.history c.put.new.self)
    (λ tells. refl) (λ tells. subst (λ (w : Change). MaybeWrote w (g.S.Store.history c.args.disk.now) (g.S.Store.history c.put.new.self)) change (c.put.ensures.maybe tells))

pub returns-clause-wrote : goal.returns-clause-wrote
returns-clause-wrote g c =
    let change : Put c.as_str.result.now c.as_slice.result.now ≡ ref_write c.args.folder.now c.args.path.now c.args.head.now =
    ap (λ (p : List ℕ). Put p c.as_slice.result.now) (c.as_str.ensures ∙ c.in_ok-at.ensures) ∙ ap (Put (joined c.args.folder.now c.args.path.now)) (c.as_slice.ensures ∙ c.in_ok-text.ensures.text) in
    WroteIf_one g.S.Store.tells (PutsRef c.args.folder.now c.args.path.now c.args.head.now) (ref_write c.args.folder.now c.args.path.now c.args.head.now) (g.S.Store.history c.args.disk.now) (g.S.Store.history c.put.new.self)
    (λ tells. refl) (λ tells. subst (λ (w : Change). MaybeWrote w (g.S.Store.history c.args.disk.now) (g.S.Store.history c.put.new.self)) change (c.put.ensures.maybe tells))
