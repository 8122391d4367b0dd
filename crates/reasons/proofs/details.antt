mod ArgumentLaws
mod DetailLaws
mod UntakenLaws
