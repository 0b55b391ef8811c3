-- What follows from what an answer says where it is one.
use Rattle.std.proofs.Common.{Result, Ok, Err, OnOk, OnErr}

pub on_ok : {T E : Type 0} (r : Result T E) (P Q : Type 0) → (P → Q) → OnOk r P → OnOk r Q
on_ok (Ok x) P Q made h = made h
on_ok (Err e) P Q made h = tt

pub on_err : {T E : Type 0} (r : Result T E) (P Q : Type 0) → (P → Q) → OnErr r P → OnErr r Q
on_err (Ok x) P Q made h = tt
on_err (Err e) P Q made h = made h

pub err_given : {T E P : Type 0} (r : Result T E) → P → OnErr r P
err_given (Ok x) h = tt
err_given (Err e) h = h
