mod OnsetLaws
mod Keeping
mod Living
mod RestLaws
mod Noting
