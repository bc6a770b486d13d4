-- A copied object is put after all that it names.
use Rattle.std.proofs.Common.{◌≡◌, ℕ, Bool, List, [], sym, ◌∙◌, ap}
use Rattle.std.proofs.lemmas.List.Elements.{Contains-push}
use Rattle.gb_text.specs.Folder.{joined}
use Rattle.gb_text.specs.declared.id.Name.{Name}
use Rattle.gb_store.specs.Files.{Files, Put}
use Rattle.gb_store.specs.ObjectPath.{object_place}
use Rattle.gb_store.specs.declared.store.Change.{Change}
use Rattle.git_object.specs.Grammar.{object_name}
use Rattle.git_object.proofs.ObjectLaws.{object_takes}
use Rattle.object_store.specs.Held.{Objects, objects_in}
use Rattle.remote_copy.specs.NeedWrites.{PutsOneAfterNeeds}
use Rattle.remote_copy.specs.Writes.{PutsCopy}
use Rattle.remote_copy.proofs.TextLemmas.{text_at-is}

pub puts_after_needs : (closed : Bool) (source target : List ℕ) (entry : Objects) (head : Name) (files : Files) (change : Change) → PutsCopy closed source target entry head files change → PutsOneAfterNeeds target files change
puts_after_needs closed source target entry head files change p =
    let text = text_at-is (objects_in files source) p.name p.text p.held in
    let named : p.name ≡ object_name p.text = sym text.is_named in (
      p.text,
      record {
        text = p.text;
        member = Contains-push [] p.text;
        object = p.object;
        is = object_takes p.text p.object p.is;
        within = text.within;
        free = ap (objects_in files target) (sym named) ∙ p.free;
        needs = p.needs;
        write = p.write ∙ ap (λ (n : Name). Put (joined target (object_place n)) p.text) named;
      },
    )
