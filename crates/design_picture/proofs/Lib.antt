mod PictureLemmas
